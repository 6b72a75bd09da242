-- Rooms of shared pools that are closed: on each node they and the free bytes add up to the capacity.
use Rattle.std.specs.Prelude.{◌≡◌, ℕ, ◌+◌, ◌<◌, ◌≤◌, List, [], ◌∷◌, ◌++◌, length, All, slice_index, None}
use Rattle.cod_place.specs.Room.{Room}
use Rattle.cod_place.specs.Rooms.{Store, AddUp, CameFrom, bytes_on}
use Rattle.cod_place.specs.Free.{at_node, less, taken_from}

-- on each node a seat with these bytes has just those of these rooms
abbrev pub Matches : List (ℕ × ℕ) → List Room → Type 0
Matches bytes rooms = (node : ℕ) → at_node node bytes ≡ bytes_on node rooms

abbrev pub AreInside : Store → List Room → Type 0
AreInside store rooms = All (λ (room : Room). room.node.0 < length store.free) rooms

-- the first seat has the bytes of all rooms that are out
abbrev pub OpenedMatches : Type 0
OpenedMatches = (store : Store) (rooms : List Room) → AddUp store rooms → Matches (taken_from store.capacity 0 store.free) rooms

-- each room of a seat can be adopted, and the seat then has the bytes of the others
abbrev pub AdoptedMatches : Type 0
AdoptedMatches =
    (bytes : List (ℕ × ℕ)) (room : Room) (rooms : List Room)
    → Matches bytes (room ∷ rooms) → (room.bytes ≤ at_node room.node.0 bytes) × Matches (less room.node.0 room.bytes bytes) rooms

-- a seat to which a room is released has its bytes too
abbrev pub ReleasedMatches : Type 0
ReleasedMatches =
    (bytes : List (ℕ × ℕ)) (room : Room) (rooms : List Room) → Matches bytes rooms → Matches (bytes ++ (room.node.0, room.bytes) ∷ []) (room ∷ rooms)

-- a seat to which another is joined has the bytes of the rooms of both
abbrev pub JoinedMatches : Type 0
JoinedMatches =
    (bytes more : List (ℕ × ℕ)) (rooms others : List Room) → Matches bytes rooms → Matches more others → Matches (bytes ++ more) (rooms ++ others)

-- what the close says of the free bytes and the seat's bytes, it says of the free bytes and the rooms
abbrev pub ClosedAddsUp : Type 0
ClosedAddsUp =
    (store : Store) (bytes : List (ℕ × ℕ)) (rooms : List Room) → AreInside store rooms
    → ((node : ℕ) → node < length store.free → slice_index store.free node + at_node node bytes ≡ store.capacity)
    → Matches bytes rooms → AddUp store rooms

-- and rooms without a badge may be given back to the closed pools
abbrev pub ClosedCame : Type 0
ClosedCame =
    (store : Store) (rooms : List Room) → AddUp store rooms → All (λ (room : Room). room.of ≡ None) rooms → CameFrom store rooms
