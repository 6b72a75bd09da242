-- The rooms of closed pools.
use Rattle.std.proofs.Common.{◌≡◌, ◌≢◌, ℕ, ◌+◌, ◌-◌, ◌<◌, ◌≤◌, List, [], ◌∷◌, ◌++◌, length, All, refl, sym, ap, ◌∙◌, subst, arith, slice_index}
use Rattle.std.proofs.lemmas.List.Elements.{All-head, All-tail}
use Rattle.std.proofs.lemmas.List.Sums.{sum_by-append}
use mathlib.Core.Logic.{dite}
use native.Mathlib.Decide.{ℕ_discrete, dec_lt}
use Rattle.cod_place.specs.Room.{Room}
use Rattle.cod_place.specs.Rooms.{Store, AddUp, CameFrom, bytes_on}
use Rattle.cod_place.specs.Free.{at_node, less, taken_from}
use Rattle.cod_place.specs.Closed.{Matches, AreInside, OpenedMatches, AdoptedMatches, ReleasedMatches, JoinedMatches, ClosedAddsUp, ClosedCame}
use Rattle.cod_place.proofs.Rooms.{part, here, elsewhere}
use Rattle.cod_place.proofs.Keeps.{at_node-append, at_one, at_other, less_here, less_other, taken_is, taken_beyond}

-- rooms have no bytes beyond their nodes
nothing_beyond : (n node : ℕ) (rooms : List Room) → All (λ (room : Room). room.node.0 < n) rooms → n ≤ node → bytes_on node rooms ≡ 0
nothing_beyond n node [] inside out = refl
nothing_beyond n node (room ∷ rooms) inside out =
    let P : Room → Type 0 = λ (r : Room). r.node.0 < n in
    let first = All-head P room rooms inside in
    let other : node ≢ room.node.0 = λ e. absurd (omega arith) in
    elsewhere node room rooms other ∙ nothing_beyond n node rooms (All-tail P room rooms inside) out

pub opened_matches : OpenedMatches
opened_matches store rooms adds node = dite (dec_lt node (length store.free))
    (λ inside. let t = taken_is store.capacity store.free node inside in let s = adds.sums node inside in omega arith)
    (λ out. taken_beyond store.capacity store.free node (omega arith) ∙ sym (nothing_beyond (length store.free) node rooms adds.inside (omega arith)))

pub adopted_matches : AdoptedMatches
adopted_matches bytes room rooms has =
    let h = here room rooms in
    let m = has room.node.0 in
    let enough : room.bytes ≤ at_node room.node.0 bytes = omega arith in (
      enough,
      λ node. dite (ℕ_discrete node room.node.0)
          (λ is. subst (λ (z : ℕ). at_node z (less room.node.0 room.bytes bytes) ≡ bytes_on z rooms) (sym is) (let l = less_here room.node.0 room.bytes bytes enough in omega arith))
          (λ other. less_other room.node.0 node room.bytes bytes other ∙ (has node ∙ elsewhere node room rooms other)),
    )

pub released_matches : ReleasedMatches
released_matches bytes room rooms has node =
    let sum = at_node-append node bytes ((room.node.0, room.bytes) ∷ []) in
    let m = has node in
    dite (ℕ_discrete node room.node.0)
    (λ is. subst (λ (z : ℕ). at_node z (bytes ++ (room.node.0, room.bytes) ∷ []) ≡ bytes_on z (room ∷ rooms)) (sym is)
    (let sum' = at_node-append room.node.0 bytes ((room.node.0, room.bytes) ∷ []) in let one = at_one room.node.0 room.bytes in let h = here room rooms in let m' = has room.node.0 in omega arith))
    (λ other. let none = at_other room.node.0 node room.bytes (λ e. other (sym e)) in let e = elsewhere node room rooms other in omega arith)

pub joined_matches : JoinedMatches
joined_matches bytes more rooms others has has' node =
    let a = at_node-append node bytes more in
    let b = sum_by-append (part node) rooms others in
    let m = has node in
    let m' = has' node in
    omega arith

pub closed_adds_up : ClosedAddsUp
closed_adds_up store bytes rooms inside sums has = record { inside = inside; sums = λ node there. let m = has node in let s = sums node there in omega arith }

pub closed_came : ClosedCame
closed_came store rooms adds plain = record { inside = adds.inside; plain = plain; within = λ node there. let s = adds.sums node there in omega arith }
