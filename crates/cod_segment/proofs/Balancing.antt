-- Rooms that come and go, and what is free beside them.
use Rattle.std.proofs.Common.{Some, ◌≡◌, ◌≢◌, ℕ, ◌+◌, ◌<◌, List, [], ◌∷◌, ◌++◌, length, Option, refl, sym, ap, ◌∙◌, subst, cond, eqb, arith, slice_index, slice_set, length-set}
use Rattle.std.proofs.Common.{get_or-set_same, get_or-set_other}
use Rattle.std.specs.Option.{option_map}
use Rattle.std.proofs.lemmas.List.Sums.{sum_by-append}
use mathlib.Core.Logic.{dite}
use native.Mathlib.Decide.{ℕ_discrete}
use Rattle.cod_place.specs.Room.{Room}
use Rattle.cod_place.specs.Rooms.{bytes_on, raised}
use Rattle.cod_place.proofs.Rooms.{elsewhere, here}
use Rattle.cod_segment.specs.Events.{Balances}

shifted : (free : List ℕ) (i v : ℕ) (old new : List Room) → ((node : ℕ) → node ≢ i → bytes_on node new ≡ bytes_on node old)
    → v + bytes_on i new ≡ slice_index free i + bytes_on i old
    → (node : ℕ) → node < length free → slice_index (slice_set free i v) node + bytes_on node new ≡ slice_index free node + bytes_on node old
shifted free i v old new apart same node small =
    dite (ℕ_discrete node i)
    (λ is. subst (λ (z : ℕ). slice_index (slice_set free i v) z + bytes_on z new ≡ slice_index free z + bytes_on z old) (sym is)
    (let there : i < length free = subst (λ (z : ℕ). z < length free) is small in let s = get_or-set_same free i v 0 there in omega (arith, s, same)))
    (λ other. let s = get_or-set_other free i node v 0 other in let a = apart node other in omega (arith, s, a))

-- the free bytes of one node change by as much as the rooms there
pub balanced : (before after : Option (List ℕ)) (i : ℕ) (change : ℕ → ℕ) (old new : List Room)
    → after ≡ option_map (λ (f : List ℕ). slice_set f i (change (slice_index f i))) before
    → ((node : ℕ) → node ≢ i → bytes_on node new ≡ bytes_on node old)
    → ((f : List ℕ) → before ≡ Some f → change (slice_index f i) + bytes_on i new ≡ slice_index f i + bytes_on i old) → Balances before after old new
balanced before after i change old new is apart same f e = (
  slice_set f i (change (slice_index f i)),
  is ∙ ap (option_map (λ (x : List ℕ). slice_set x i (change (slice_index x i)))) e,
  length-set f i (change (slice_index f i)),
  shifted f i (change (slice_index f i)) old new apart (same f e),
)

-- a room is given back
pub given : (before after : Option (List ℕ)) (room : Room) → after ≡ option_map (raised room.node.0 room.bytes) before → Balances before after (room ∷ []) []
given before after room is = balanced before after room.node.0 (λ n. n + room.bytes) (room ∷ []) [] is (λ node other. sym (elsewhere node room [] other))
    (λ f e. let h = here room [] in omega (arith, h))

pub stays : (free : Option (List ℕ)) (rooms : List Room) → Balances free free rooms rooms
stays free rooms f e = (f, e, refl, λ node small. refl)

pub then : (a b c : Option (List ℕ)) (xs ys zs : List Room) → Balances a b xs ys → Balances b c ys zs → Balances a c xs zs
then a b c xs ys zs first second f e =
    let m = first f e in
    let l = second m.0 m.1 in
    (l.0, l.1, l.2 ∙ m.2, λ node small. l.3 node (subst (λ (n : ℕ). node < n) (sym m.2) small) ∙ m.3 node small)

bytes_append : (node : ℕ) (xs ys : List Room) → bytes_on node (xs ++ ys) ≡ bytes_on node xs + bytes_on node ys
bytes_append node xs ys = sum_by-append (λ (room : Room). cond (eqb room.node.0 node) room.bytes 0) xs ys

-- beside other rooms that stay
pub beside : (before after : Option (List ℕ)) (front old new rest : List Room) → Balances before after old new
    → Balances before after (front ++ (old ++ rest)) (front ++ (new ++ rest))
beside before after front old new rest is f e =
    let m = is f e in (
      m.0,
      m.1,
      m.2,
      λ node small.
          let v = m.3 node small in
          let a = bytes_append node front (old ++ rest) in
          let b = bytes_append node old rest in
          let c = bytes_append node front (new ++ rest) in
          let d = bytes_append node new rest in
          omega (arith, v, a, b, c, d),
    )
