-- Laws of the rooms that came from a store.
use Rattle.std.specs.Prelude.{◌≡◌, None, ℕ, ◌<◌, nat_eq, if◌then◌else◌, List, [], ◌∷◌, ◌++◌, length, IsPermutation}
use Rattle.std.proofs.Common.{arith, sym, ◌∙◌, subst, length-append}
use Rattle.std.proofs.lemmas.List.{get_or_append_left}
use Rattle.std.proofs.lemmas.List.Elements.{All-nil}
use Rattle.std.proofs.lemmas.List.Sums.{sum_by-append}
use Rattle.std.proofs.lemmas.List.Sorted.{sum_by-IsPermutation, All-permutation}
use Rattle.cod_place.specs.Room.{Room}
use Rattle.cod_place.specs.Rooms.{Store, CameFrom}

abbrev part : ℕ → Room → ℕ
part node room = if nat_eq room.node.0 node then room.bytes else 0

pub came_none_lem : (store : Store) → CameFrom store []
came_none_lem store = record { inside = All-nil _; plain = All-nil _; within = λ node there. omega arith }

pub came_order_lem : (store : Store) (rooms others : List Room) → IsPermutation rooms others → CameFrom store rooms → CameFrom store others
came_order_lem store rooms others order came = record {
  inside = All-permutation (λ (room : Room). room.node.0 < length store.free) rooms others order came.inside;
  plain = All-permutation (λ (room : Room). room.of ≡ None) rooms others order came.plain;
  within = λ node there. let e = sum_by-IsPermutation (part node) rooms others order in let w = came.within node there in omega arith;
}

pub came_front_lem : (store : Store) (rooms others : List Room) → CameFrom store (rooms ++ others) → CameFrom store rooms
came_front_lem store rooms others came = record {
  inside = λ k d small. subst (λ (room : Room). room.node.0 < length store.free) (get_or_append_left rooms others d k small)
      (came.inside k d (let l = length-append rooms others in omega arith));
  plain = λ k d small. subst (λ (room : Room). room.of ≡ None) (get_or_append_left rooms others d k small)
      (came.plain k d (let l = length-append rooms others in omega arith));
  within = λ node there. let e = sum_by-append (part node) rooms others in let w = came.within node there in omega arith;
}

pub came_owner_lem : (store : Store) (room other : Room) → CameFrom store (room ∷ other ∷ []) → room.of ≡ other.of
came_owner_lem store room other came = came.plain 0 room (omega arith) ∙ sym (came.plain 1 room (omega arith))
