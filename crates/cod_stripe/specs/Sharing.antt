-- The rooms of a segment, where the pools are shared.
use Rattle.std.specs.Prelude.{◌≡◌, ℕ, ◌+◌, ◌<◌, ◌≤◌, List, length, map, Option, Some}
use Rattle.atomic_table.specs.Seated.{TableId}
use Rattle.cod_place.specs.Free.{at_node, Seated}
use Rattle.cod_place.specs.Room.{Room}
use Rattle.cod_place.specs.Rooms.{bytes_on}
use Rattle.cod_seg.specs.Pools.{owned_col}
use Rattle.cod_seg.specs.Seg.{Col, col_at, Rebuilding, Target}

-- The first seat has what the other has, and on each node the bytes of these rooms besides.
pub record Without (rooms : List Room) (seat rest : Seated) : Type 0 where
  pub of : rest.of ≡ seat.of
  pub looks : rest.looks ≡ seat.looks
  pub bytes : (node : ℕ) → at_node node rest.bytes + bytes_on node rooms ≡ at_node node seat.bytes

abbrev pub column_rooms : List Col → List Room
column_rooms cols = map (λ (c : Col). c.room) cols

-- each room is of these pools, or of none, and on one of so many nodes
abbrev pub AreOwned : Option TableId → (nodes : ℕ) → List Col → Type 0
AreOwned of nodes cols = (i : ℕ) → i < length cols → ((col_at cols i).room.of ≡ of) × ((col_at cols i).room.node.0 < nodes)

-- the rooms of the first columns have changed their badges
pub record OwnedUpTo (of : Option TableId) (count : ℕ) (old now : List Col) : Type 0 where
  pub size : length now ≡ length old
  pub done : (i : ℕ) → i < count → col_at now i ≡ owned_col of (col_at old i)
  pub left : (i : ℕ) → count ≤ i → col_at now i ≡ col_at old i

-- so is a target's, where there is one
abbrev pub IsAimed : Option TableId → (nodes : ℕ) → Option Rebuilding → Type 0
IsAimed of nodes rebuild = (r : Rebuilding) (t : Target) → rebuild ≡ Some r → r.target ≡ Some t → (t.room.of ≡ of) × (t.room.node.0 < nodes)
