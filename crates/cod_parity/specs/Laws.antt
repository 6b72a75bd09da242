-- The laws of what a parity column holds.
use Rattle.std.specs.Prelude.{◌≡◌, ◌↔◌, ◌⊎◌, ℕ, ◌+◌, ◌<◌, ◌≤◌, List, length, slice_index, bit_xor, Option, None, Some}
use Rattle.std.specs.List.{AllByRecursion, filter, flat_map}
use Rattle.cod_types.specs.Limits.{floor, record_overhead, Shape}
use Rattle.cod_record.specs.declared.parts.Head.{Head}
use Rattle.cod_parity.specs.Log.{AreBelowEnd, change, IsDue, IsIn, IsIncluded, is_past, Logged, logged_length, lowest_from, no_lowest, text}
use Rattle.cod_parity.specs.State.{IsKept, Means, State}
use Rattle.cod_parity.specs.Calls.{AppendsMerged, Merges}
use Rattle.cod_parity.specs.Held.{add_piece, HasValue, Holds, no_pieces, Piece, pieces_length, raised_cut, without_piece}

-- what a column's state means is one base and one list of records
abbrev pub OneMeaning : Type 0
OneMeaning = (s : State) (base other : List ℕ) (records others : List Logged) → Means s base records → Means s other others
    → (base ≡ other) × (records ≡ others)

-- a column has one value at a cut
abbrev pub OneValue : Type 0
OneValue = (s : State) (cuts : List ℕ) (v w : ℕ → ℕ) → HasValue s cuts v → HasValue s cuts w → (x : ℕ) → x < s.shape.block → v x ≡ w x

-- the least numbers are due exactly where some record is at or below its cut
abbrev pub DueWhereIncluded : Type 0
DueWhereIncluded = (g : Shape) (cuts : List ℕ) (records : List Logged) → g.k ≤ 16 → AllByRecursion (IsIn g) records
    → AreBelowEnd cuts → IsDue (lowest_from no_lowest records) cuts ↔ IsIncluded cuts records

-- what the records add at higher cuts is what they add now, and what those past the cut add then
abbrev pub RaisedCuts : Type 0
RaisedCuts = (cuts higher : List ℕ) (records : List Logged) (x : ℕ)
    → ((l : Logged) → slice_index cuts l.whole.block ≤ slice_index higher l.whole.block)
    → change higher records x ≡ bit_xor (change cuts records x) (change higher (filter (is_past cuts) records) x)

-- one block's cut raised by one moves its update in flight into the value, and nothing else
abbrev pub RaisedCut : Type 0
RaisedCut = (s : State) (cuts : List ℕ) (v : ℕ → ℕ) (p : ℕ → Option Piece) (j : ℕ) → j < length cuts → Holds s cuts v p
    → Holds s (raised_cut cuts j) (add_piece (p j) v) (without_piece p j)

-- what is held is told by the value's bytes and the pieces, however they are given
abbrev pub HeldAgain : Type 0
HeldAgain = (s : State) (cuts : List ℕ) (v w : ℕ → ℕ) (p q : ℕ → Option Piece) → ((x : ℕ) → x < s.shape.block → v x ≡ w x)
    → ((j : ℕ) → p j ≡ q j) → Holds s cuts v p → Holds s cuts w q

-- what is held is told by the geometry, the bytes in use, the least numbers and the region's content alone
abbrev pub HeldElsewhere : Type 0
HeldElsewhere = (s t : State) (cuts : List ℕ) (v : ℕ → ℕ) (p : ℕ → Option Piece) → t.shape ≡ s.shape → t.used ≡ s.used → t.lowest ≡ s.lowest
    → t.device.content ≡ s.device.content → Holds s cuts v p → Holds t cuts v p

-- the records past the cut have just the bytes that the pieces tell
abbrev pub HeldLength : Type 0
HeldLength = (s : State) (cuts : List ℕ) (v : ℕ → ℕ) (p : ℕ → Option Piece) → Holds s cuts v p
    → (base : List ℕ) (records : List Logged) → Means s base records
    → length (flat_map text (filter (is_past cuts) records)) ≡ pieces_length p s.shape.k

-- after a merge those are all the bytes in use
abbrev pub MergedLength : Type 0
MergedLength = (s t : State) (cuts : List ℕ) (v : ℕ → ℕ) (p : ℕ → Option Piece) → Holds s cuts v p → Merges cuts s t
    → t.used ≡ pieces_length p s.shape.k

-- and after an append that merges they are, with the record's own
abbrev pub AppendedLength : Type 0
AppendedLength = (s t : State) (cuts : List ℕ) (v : ℕ → ℕ) (p : ℕ → Option Piece) (l : Logged) → Holds s cuts v p → AppendsMerged cuts l s t
    → t.used ≡ pieces_length p s.shape.k + length (text l)

-- a merge is due exactly where there are more bytes in use than the pieces tell
abbrev pub DueByLength : Type 0
DueByLength = (s : State) (cuts : List ℕ) (v : ℕ → ℕ) (p : ℕ → Option Piece) → IsKept s → AreBelowEnd cuts → Holds s cuts v p
    → (pieces_length p s.shape.k ≤ s.used) × (IsDue s.lowest cuts ↔ (pieces_length p s.shape.k < s.used))

-- So where nothing is in flight, it is due exactly where there is a record.
abbrev pub DueWhenCommitted : Type 0
DueWhenCommitted = (s : State) (cuts : List ℕ) (v : ℕ → ℕ) → IsKept s → AreBelowEnd cuts → Holds s cuts v no_pieces
    → (s.used ≡ 0 → IsDue s.lowest cuts → ⊥) × (0 < s.used → IsDue s.lowest cuts)

-- whether a number is due is decided
abbrev pub DueOrNot : Type 0
DueOrNot = (low cuts : List ℕ) → IsDue low cuts ⊎ (IsDue low cuts → ⊥)

-- a piece's record isn't longer than a record of its bytes may be
abbrev pub PieceMost : Type 0
PieceMost = (s : State) (cuts : List ℕ) (v : ℕ → ℕ) (p : ℕ → Option Piece) (j : ℕ) (piece : Piece) → Holds s cuts v p → p j ≡ Some piece
    → piece.length ≤ record_overhead s.shape.version + length piece.bytes

-- each piece has at most an update's bytes, and a record no longer than one of them may be
abbrev pub AreShort : Shape → (p : ℕ → Option Piece) → Type 0
AreShort g p = (j : ℕ) (piece : Piece) → p j ≡ Some piece
    → (length piece.bytes ≤ g.update) × (piece.length ≤ record_overhead g.version + length piece.bytes)

-- the records of such pieces, one for each block at most, take no more than the floor
abbrev pub PiecesFit : Type 0
PiecesFit = (g : Shape) (p : ℕ → Option Piece) → AreShort g p → pieces_length p g.k ≤ floor g

-- and beside them the floor has room for one record more, of a block that has none
abbrev pub RecordFits : Type 0
RecordFits = (g : Shape) (p : ℕ → Option Piece) (version : ℕ) (h : Head) (bytes : List ℕ) → AreShort g p → p h.block ≡ None → h.block < g.k
    → length bytes ≤ g.update → (version ≡ 2 → g.version ≡ 2) → pieces_length p g.k + logged_length version h bytes ≤ floor g
