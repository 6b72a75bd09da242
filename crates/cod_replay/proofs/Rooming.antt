-- The rooms of all segments, where one of these has an event.
use Rattle.std.proofs.Common.{◌≡◌, ℕ, zero, suc, ◌+◌, ◌<◌, List, [], ◌∷◌, ◌++◌, length, set, Some, refl, sym, ap, ◌∙◌, subst, append_assoc, arith}
use Rattle.std.specs.Prelude.{IsPermutation, slice_index}
use Rattle.std.proofs.lemmas.List.Sorted.{IsPermutation-append_comm, IsPermutation-append_left, IsPermutation-append_right, IsPermutation-refl, IsPermutation-sym, IsPermutation-trans, sum_by-IsPermutation}
use Rattle.std.proofs.lemmas.List.Sums.{sum_by-append}
use Rattle.cod_place.specs.Room.{Room}
use Rattle.cod_place.specs.Rooms.{AddUp, bytes_on, CameFrom, Store}
use Rattle.cod_place.specs.Stores.{came_front_lem, came_order_lem}
use Rattle.cod_place.proofs.Rooms.{part}
use Rattle.cod_seg.specs.Seg.{Seg}
use Rattle.cod_segment.specs.Events.{Balances, rooms_of}
use Rattle.cod_advance.specs.Worlds.{seg_at}
use Rattle.cod_homes.specs.Building.{all_rooms}

-- the rooms of the other segments
abbrev pub rest_of : ℕ → List Seg → List Room
rest_of i [] = []
rest_of zero (s ∷ ss) = all_rooms ss
rest_of (suc i) (s ∷ ss) = rooms_of s ++ rest_of i ss

-- the rooms of one segment stand first
pub first : (i : ℕ) (segs : List Seg) → i < length segs → IsPermutation (all_rooms segs) (rooms_of (seg_at segs i) ++ rest_of i segs)
first i [] small = absurd (omega (arith, small))
first zero (s ∷ ss) small = IsPermutation-refl (rooms_of s ++ all_rooms ss)
first (suc i) (s ∷ ss) small =
    let a = rooms_of s in
    let b = rooms_of (seg_at ss i) in
    let c = rest_of i ss in
    let inner = IsPermutation-append_right a (all_rooms ss) (b ++ c) (first i ss (omega (arith, small))) in
    let swap = IsPermutation-append_left c (a ++ b) (b ++ a) (IsPermutation-append_comm a b) in
    IsPermutation-trans (a ++ all_rooms ss) (a ++ (b ++ c)) (b ++ (a ++ c)) inner
    (subst (λ (l : List Room). IsPermutation l (b ++ (a ++ c))) (append_assoc a b c) (subst (λ (l : List Room). IsPermutation ((a ++ b) ++ c) l) (append_assoc b a c) swap))

pub rest_set : (i : ℕ) (segs : List Seg) (u : Seg) → rest_of i (set segs i u) ≡ rest_of i segs
rest_set i [] u = refl
rest_set zero (s ∷ ss) u = refl
rest_set (suc i) (s ∷ ss) u = ap (λ (l : List Room). rooms_of s ++ l) (rest_set i ss u)

pub first_set : (i : ℕ) (segs : List Seg) (u : Seg) → i < length segs → IsPermutation (all_rooms (set segs i u)) (rooms_of u ++ rest_of i segs)
first_set i [] u small = absurd (omega (arith, small))
first_set zero (s ∷ ss) u small = IsPermutation-refl (rooms_of u ++ all_rooms ss)
first_set (suc i) (s ∷ ss) u small =
    let a = rooms_of s in
    let b = rooms_of u in
    let c = rest_of i ss in
    let inner = IsPermutation-append_right a (all_rooms (set ss i u)) (b ++ c) (first_set i ss u (omega (arith, small))) in
    let swap = IsPermutation-append_left c (a ++ b) (b ++ a) (IsPermutation-append_comm a b) in
    IsPermutation-trans (a ++ all_rooms (set ss i u)) (a ++ (b ++ c)) (b ++ (a ++ c)) inner
    (subst (λ (l : List Room). IsPermutation l (b ++ (a ++ c))) (append_assoc a b c) (subst (λ (l : List Room). IsPermutation ((a ++ b) ++ c) l) (append_assoc b a c) swap))

-- ---- where rooms come from

pub came_first : (store : Store) (segs : List Seg) (i : ℕ) → i < length segs → CameFrom store (all_rooms segs) → CameFrom store (rooms_of (seg_at segs i) ++ rest_of i segs)
came_first store segs i small came = came_order_lem store (all_rooms segs) (rooms_of (seg_at segs i) ++ rest_of i segs) (first i segs small) came

pub came_one : (store : Store) (segs : List Seg) (i : ℕ) → i < length segs → CameFrom store (all_rooms segs) → CameFrom store (rooms_of (seg_at segs i))
came_one store segs i small came = came_front_lem store (rooms_of (seg_at segs i)) (rest_of i segs) (came_first store segs i small came)

pub came_back : (store : Store) (segs : List Seg) (i : ℕ) (u : Seg) → i < length segs → CameFrom store (rooms_of u ++ rest_of i segs) → CameFrom store (all_rooms (set segs i u))
came_back store segs i u small came =
    came_order_lem store (rooms_of u ++ rest_of i segs) (all_rooms (set segs i u))
    (IsPermutation-sym (all_rooms (set segs i u)) (rooms_of u ++ rest_of i segs) (first_set i segs u small)) came

-- ---- sums

pub bytes_first : (node i : ℕ) (segs : List Seg) → i < length segs → bytes_on node (all_rooms segs) ≡ bytes_on node (rooms_of (seg_at segs i)) + bytes_on node (rest_of i segs)
bytes_first node i segs small =
    sym (sum_by-IsPermutation (part node) (all_rooms segs) (rooms_of (seg_at segs i) ++ rest_of i segs) (first i segs small))
    ∙ sum_by-append (part node) (rooms_of (seg_at segs i)) (rest_of i segs)

pub bytes_set : (node i : ℕ) (segs : List Seg) (u : Seg) → i < length segs → bytes_on node (all_rooms (set segs i u)) ≡ bytes_on node (rooms_of u) + bytes_on node (rest_of i segs)
bytes_set node i segs u small =
    sym (sum_by-IsPermutation (part node) (all_rooms (set segs i u)) (rooms_of u ++ rest_of i segs) (first_set i segs u small))
    ∙ sum_by-append (part node) (rooms_of u) (rest_of i segs)

-- what is free and all rooms still add up after an event of one segment
pub adds_up : (capacity : ℕ) (before now : Store) (segs : List Seg) (i : ℕ) (u : Seg) → i < length segs → length now.free ≡ length before.free
    → Balances (Some before.free) (Some now.free) (rooms_of (seg_at segs i)) (rooms_of u) → CameFrom now (all_rooms (set segs i u))
    → AddUp (record { capacity = capacity; free = before.free }) (all_rooms segs) → AddUp (record { capacity = capacity; free = now.free }) (all_rooms (set segs i u))
adds_up capacity before now segs i u small size balance came adds =
    let b = balance before.free refl in
    let is : now.free ≡ b.0 = cc in
    record {
      inside = came.inside;
      sums = λ node there.
          let below : node < length before.free = omega (arith, there, size) in
          let e : slice_index now.free node + bytes_on node (rooms_of u) ≡ slice_index before.free node + bytes_on node (rooms_of (seg_at segs i)) = rw is (b.3 node below) in
          let was = adds.sums node below in
          let old = bytes_first node i segs small in
          let new = bytes_set node i segs u small in
          omega (arith, e, was, old, new);
    }
