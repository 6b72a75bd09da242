-- The free bytes of each node, the bytes that seats have, and what the steps tell.
use Rattle.std.specs.Prelude.{◌≡◌, ℕ, ◌+◌, ◌-◌, ◌<◌, ◌≤◌, ◌%◌, ◌^◌, eqb, ltb, List, [], ◌∷◌, ◌++◌, length, slice_index, slice_set, cond, Option, Some, None}
use Rattle.atomic_table.specs.Table.{State, Me, Step}
use Rattle.cod_seats.specs.Totals.{total, Has}
use mathlib.Core.List.{IsPrefix}
use Rattle.atomic_table.specs.Seated.{TableId}
use Rattle.std.specs.Prelude.{All}
use Rattle.cod_place.specs.Room.{Room}
use Rattle.cod_place.specs.Rooms.{Store}
use Rattle.cod_place.specs.declared.view.View.{View}

-- so many bytes on one node
abbrev pub at_node : ℕ → List (ℕ × ℕ) → ℕ
at_node node [] = 0
at_node node (x ∷ xs) = cond (eqb x.0 node) x.1 0 + at_node node xs

-- On each node the word and the bytes of all seats add up to the capacity
pub record Kept (capacity : ℕ) (s : State (Unit {0}) View) : Type 0 where
  pub low : capacity < 4294967296
  pub sums : (i : ℕ) → i < length s.words → slice_index s.words i + total (λ (v : View). at_node i v.bytes) s.views ≡ capacity

abbrev pub nobody : View
nobody = record { bytes = []; looks = [] }

-- after a load of the node's word
abbrev pub looked : View → ℕ → ℕ → View
looked v node found = record { bytes = v.bytes; looks = v.looks ++ (node, found) ∷ [] }

abbrev pub Looked : Step (Unit {0}) → Me (Unit {0}) View → ℕ → Me (Unit {0}) View → Type 0
Looked s m found w = w ≡ (looked m.0 s.word found, m.1)

-- an exchange from `first` to `second` takes the bytes between
abbrev pub took : View → ℕ → ℕ → ℕ → ℕ → View
took v node first second found = cond (eqb found first) record { bytes = (node, first - second) ∷ v.bytes; looks = v.looks } v

abbrev pub Took : Step (Unit {0}) → Me (Unit {0}) View → ℕ → Me (Unit {0}) View → Type 0
Took s m found w = w ≡ (took m.0 s.word s.first s.second found, m.1)

-- a room's seat has bytes on one node alone; some of them go back
abbrev pub gave : View → ℕ → ℕ → View
gave v node bytes = record { bytes = (node, at_node node v.bytes - bytes) ∷ []; looks = v.looks }

abbrev pub Gave : Step (Unit {0}) → Me (Unit {0}) View → ℕ → Me (Unit {0}) View → Type 0
Gave s m found w = w ≡ (gave m.0 s.word s.first, m.1)

abbrev pub left_of : View → View
left_of v = v

abbrev pub right_of : View → View
right_of v = nobody

abbrev pub both_of : View → View → View
both_of v w = record { bytes = v.bytes ++ w.bytes; looks = v.looks }

-- so many bytes of a node, less
abbrev pub less : (node bytes : ℕ) → List (ℕ × ℕ) → List (ℕ × ℕ)
less node bytes [] = []
less node bytes (x ∷ xs) = cond (eqb x.0 node) ((x.0, x.1 - bytes) ∷ less node (bytes - x.1) xs) (x ∷ less node bytes xs)

-- so many bytes of a node stand first, so that they may be split off
abbrev pub staged : View → ℕ → ℕ → View
staged v node bytes = record { bytes = (node, bytes) ∷ less node bytes v.bytes; looks = v.looks }

abbrev pub Staged : Step (Unit {0}) → Me (Unit {0}) View → ℕ → Me (Unit {0}) View → Type 0
Staged s m found w = w ≡ (staged m.0 s.word s.first, m.1)

-- the first bytes, and the others
abbrev pub head_of : List (ℕ × ℕ) → List (ℕ × ℕ)
head_of [] = []
head_of (x ∷ xs) = x ∷ []

abbrev pub tail_of : List (ℕ × ℕ) → List (ℕ × ℕ)
tail_of [] = []
tail_of (x ∷ xs) = xs

-- the first bytes go to a new seat
abbrev pub after_first : View → View
after_first v = record { bytes = tail_of v.bytes; looks = v.looks }

abbrev pub first_bytes : View → View
first_bytes v = record { bytes = head_of v.bytes; looks = [] }

-- what isn't free, from node i on
abbrev pub taken_from : (capacity i : ℕ) → List ℕ → List (ℕ × ℕ)
taken_from capacity i [] = []
taken_from capacity i (f ∷ fs) = (i, capacity - f) ∷ taken_from capacity (i + 1) fs

abbrev pub first_view : Store → View
first_view s = record { bytes = taken_from s.capacity 0 s.free; looks = [] }

-- shared pools: which they are, and the capacity of each node
pub record Pooled : Type 0 where
  pub of : TableId
  pub capacity : ℕ

-- a seat of shared pools: of which it is, the bytes that it has, and what it has looked at
pub record Seated : Type 0 where
  pub of : TableId
  pub bytes : List (ℕ × ℕ)
  pub looks : List (ℕ × ℕ)

-- these counts are the seat's bytes on each node
abbrev pub Counted : (counts : List ℕ) (bytes : List (ℕ × ℕ)) → Type 0
Counted counts bytes = (length counts ≡ 64) × ((node : ℕ) → node < 64 → slice_index counts node ≡ at_node node bytes % 2 ^ 64)

-- a seat after it looked: it has the same bytes, and looked at as much or more
pub record After (s t : Seated) : Type 0 where
  pub of : t.of ≡ s.of
  pub bytes : t.bytes ≡ s.bytes
  pub looks : IsPrefix s.looks t.looks

-- since a seat was so, it has looked at a node and found so many bytes
abbrev pub HasSeen : (s t : Seated) (node bytes : ℕ) → Type 0
HasSeen s t node bytes = (more : List (ℕ × ℕ)) × (s.looks ++ more ≡ t.looks) × Has (node, bytes) more

-- each room has a badge of these pools, and stands on one of their nodes
abbrev pub AreOf : TableId → List Room → Type 0
AreOf of rooms = All (λ (room : Room). (room.of ≡ Some of) × (room.node.0 < of.words)) rooms
