-- Rooms of columns that are taken, one after another, and given back from the last on.
use Rattle.std.proofs.Common.{◌≡◌, ℕ, ◌<◌, ◌≤◌, List, [], ◌∷◌, ◌++◌, length, map, Some, refl, sym, subst, arith, append-nil}
use Rattle.std.specs.Prelude.{IsPermutation, slice_index}
use Rattle.std.proofs.lemmas.List.{map-append}
use Rattle.std.proofs.lemmas.List.Sorted.{All-permutation, IsPermutation-append_comm, IsPermutation-append_left, sum_by-IsPermutation}
use Rattle.cod_place.specs.Room.{Room}
use Rattle.cod_place.specs.Rooms.{AddUp, CameFrom, lowered, raised, Store}
use Rattle.cod_place.specs.Stores.{came_front_lem, came_order_lem}
use Rattle.cod_place.proofs.Rooms.{giving_adds_up, part, taking_adds_up}
use Rattle.cod_seg.specs.Seg.{Col}

abbrev pub rooms_in : List Col → List Room
rooms_in cols = map (λ (c : Col). c.room) cols

-- the room of the last column comes first
last_first : (cols : List Col) (c : Col) (rest : List Room) → IsPermutation (rooms_in (cols ++ c ∷ []) ++ rest) (c.room ∷ (rooms_in cols ++ rest))
last_first cols c rest =
    subst (λ (rooms : List Room). IsPermutation (rooms ++ rest) (c.room ∷ (rooms_in cols ++ rest))) (sym (map-append (λ (x : Col). x.room) cols (c ∷ [])))
    (IsPermutation-append_left rest (rooms_in cols ++ c.room ∷ []) (c.room ∷ rooms_in cols) (IsPermutation-append_comm (rooms_in cols) (c.room ∷ [])))

-- and back
first_last : (cols : List Col) (c : Col) (rest : List Room) → IsPermutation (c.room ∷ (rooms_in cols ++ rest)) (rooms_in (cols ++ c ∷ []) ++ rest)
first_last cols c rest =
    subst (λ (rooms : List Room). IsPermutation (c.room ∷ (rooms_in cols ++ rest)) (rooms ++ rest)) (sym (map-append (λ (x : Col). x.room) cols (c ∷ [])))
    (IsPermutation-append_left rest (c.room ∷ rooms_in cols) (rooms_in cols ++ c.room ∷ []) (IsPermutation-append_comm (c.room ∷ []) (rooms_in cols)))

-- the order of the rooms that are out doesn't matter
add_up_order : (store : Store) (rooms others : List Room) → IsPermutation rooms others → AddUp store rooms → AddUp store others
add_up_order store rooms others order adds = record {
  inside = All-permutation (λ (room : Room). room.node.0 < length store.free) rooms others order adds.inside;
  sums = λ node there. let e = sum_by-IsPermutation (part node) rooms others order in let w = adds.sums node there in omega arith;
}

store_is : (old new : Store) (free : List ℕ) → new.capacity ≡ old.capacity → Some new.free ≡ Some free → record old { free = free } ≡ new
store_is old new free capacity is = let e : new.free ≡ free = cc in rw (capacity, e) refl

-- the last column's room came from the pools
pub last_came : (store : Store) (cols : List Col) (c : Col) → CameFrom store (rooms_in (cols ++ c ∷ [])) → CameFrom store (c.room ∷ rooms_in cols)
last_came store cols c came =
    let ordered = came_order_lem store (rooms_in (cols ++ c ∷ []) ++ []) (c.room ∷ (rooms_in cols ++ [])) (last_first cols c [])
    (subst (CameFrom store) (sym (append-nil (rooms_in (cols ++ c ∷ [])))) came) in
    subst (λ (rooms : List Room). CameFrom store (c.room ∷ rooms)) (append-nil (rooms_in cols)) ordered

pub one_came : (store : Store) (cols : List Col) (c : Col) → CameFrom store (rooms_in (cols ++ c ∷ [])) → CameFrom store (c.room ∷ [])
one_came store cols c came = came_front_lem store (c.room ∷ []) (rooms_in cols) (last_came store cols c came)

-- without the last column's room, what is out still adds up
pub given_back : (old new : Store) (cols : List Col) (c : Col) (rest : List Room) → new.capacity ≡ old.capacity
    → Some new.free ≡ Some (raised c.room.node.0 c.room.bytes old.free) → AddUp old (rooms_in (cols ++ c ∷ []) ++ rest) → AddUp new (rooms_in cols ++ rest)
given_back old new cols c rest capacity free adds =
    subst (λ (s : Store). AddUp s (rooms_in cols ++ rest)) (store_is old new (raised c.room.node.0 c.room.bytes old.free) capacity free)
    (giving_adds_up old (rooms_in cols ++ rest) c.room (add_up_order old (rooms_in (cols ++ c ∷ []) ++ rest) (c.room ∷ (rooms_in cols ++ rest)) (last_first cols c rest) adds))

-- with one room more, what is out still adds up
pub taken : (old new : Store) (room : Room) (node bytes : ℕ) (rest : List Room) → room.node.0 ≡ node → room.bytes ≡ bytes → new.capacity ≡ old.capacity
    → Some new.free ≡ Some (lowered node bytes old.free) → node < length old.free → bytes ≤ slice_index old.free node → AddUp old rest → AddUp new (room ∷ rest)
taken old new room node bytes rest on long capacity free there enough adds =
    let free' : Some new.free ≡ Some (lowered room.node.0 room.bytes old.free) = rw (on, long) free in
    subst (λ (s : Store). AddUp s (room ∷ rest)) (store_is old new (lowered room.node.0 room.bytes old.free) capacity free')
    (taking_adds_up old rest room adds (rw on there) (rw (on, long) enough))

-- and the room is the last column's
pub filled : (store : Store) (cols : List Col) (c : Col) (rest : List Room) → AddUp store (c.room ∷ (rooms_in cols ++ rest)) → AddUp store (rooms_in (cols ++ c ∷ []) ++ rest)
filled store cols c rest adds = add_up_order store (c.room ∷ (rooms_in cols ++ rest)) (rooms_in (cols ++ c ∷ []) ++ rest) (first_last cols c rest) adds

pub all_came : (store : Store) (cols : List Col) (c : Col) → CameFrom store (c.room ∷ rooms_in cols) → CameFrom store (rooms_in (cols ++ c ∷ []))
all_came store cols c came =
    let ordered = came_order_lem store (c.room ∷ (rooms_in cols ++ [])) (rooms_in (cols ++ c ∷ []) ++ []) (first_last cols c [])
    (subst (λ (rooms : List Room). CameFrom store (c.room ∷ rooms)) (sym (append-nil (rooms_in cols))) came) in
    subst (CameFrom store) (append-nil (rooms_in (cols ++ c ∷ []))) ordered
