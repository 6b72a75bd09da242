-- What a parity column holds, said without its records: its value at the cut, and the updates in flight.
use Rattle.std.specs.Prelude.{◌≡◌, ℕ, zero, suc, ◌+◌, ◌<◌, ◌≤◌, List, [], ◌∷◌, length, slice_index, slice_set, bit_xor, Bool, ◌&&◌, nat_eq, Option, Some, None}
use Rattle.std.specs.Prelude.{if◌then◌else◌}
use Rattle.std.specs.List.{filter}
use Rattle.cod_types.specs.Limits.{record_overhead, Shape}
use Rattle.cod_types.specs.Overwritten.{byte_at}
use Rattle.cod_record.specs.Record.{range_byte}
use Rattle.cod_parity.specs.Log.{change, is_past, Logged, text}
use Rattle.cod_parity.specs.State.{Means, State}

-- a place in a block, the bytes there, and how many bytes the text of their record has
pub record Piece : Type 0 where
  pub off : ℕ
  pub bytes : List ℕ
  pub length : ℕ

-- a record of that block past the cut
abbrev pub is_pending : (cuts : List ℕ) (j : ℕ) → Logged → Bool
is_pending cuts j l = is_past cuts l && nat_eq l.whole.block j

-- The record of a piece: over zeros it has the piece's bytes, and its text is as long as the piece tells, no longer than a record
-- of them may be.
pub record IsPiece (g : Shape) (j number : ℕ) (p : Piece) (l : Logged) : Type 0 where
  pub in_block : l.whole.block ≡ j
  pub numbered : l.whole.number ≡ number
  pub bytes : (x : ℕ) → range_byte l.whole.ranges x ≡ byte_at x 0 p.off p.bytes
  pub long : length (text l) ≡ p.length
  pub most : p.length ≤ record_overhead g.version + length p.bytes

-- one record is all there is
pub record IsLone (g : Shape) (j number : ℕ) (p : Piece) (records : List Logged) : Type 0 where
  pub one : Logged
  pub all : records ≡ one ∷ []
  pub piece : IsPiece g j number p one

-- the records of a block in flight: that of the piece where there is one, and else none
abbrev pub AreInFlight : (g : Shape) (j number : ℕ) → Option Piece → List Logged → Type 0
AreInFlight g j number None records = records ≡ []
AreInFlight g j number (Some p) records = IsLone g j number p records

-- The column's value at the cut is `value`, and its records past the cut are those of `pending`, each with the number
-- after its block's cut.
pub record Holds (s : State) (cuts : List ℕ) (value : ℕ → ℕ) (pending : ℕ → Option Piece) : Type 0 where
  pub base : List ℕ
  pub records : List Logged
  pub means : Means s base records
  pub value_is : (x : ℕ) → x < s.shape.block → bit_xor (slice_index base x) (change cuts records x) ≡ value x
  pub in_flight : (j : ℕ) → AreInFlight s.shape j (slice_index cuts j + 1) (pending j) (filter (is_pending cuts j) records)

-- the column's value at the cut
pub record HasValue (s : State) (cuts : List ℕ) (value : ℕ → ℕ) : Type 0 where
  pub pending : ℕ → Option Piece
  pub holds : Holds s cuts value pending

-- no update is in flight
abbrev pub no_pieces : ℕ → Option Piece
no_pieces j = None

-- with one more update in flight
abbrev pub with_piece : (pending : ℕ → Option Piece) (j : ℕ) (p : Piece) → ℕ → Option Piece
with_piece pending j p i = if nat_eq i j then Some p else pending i

-- with the update of the block no more in flight
abbrev pub without_piece : (pending : ℕ → Option Piece) (j : ℕ) → ℕ → Option Piece
without_piece pending j i = if nat_eq i j then None else pending i

-- what an update adds to a value once it is committed
abbrev pub add_piece : Option Piece → (value : ℕ → ℕ) → ℕ → ℕ
add_piece None value x = value x
add_piece (Some p) value x = bit_xor (value x) (byte_at x 0 p.off p.bytes)

-- the cuts with that of block j one higher
abbrev pub raised_cut : (cuts : List ℕ) (j : ℕ) → List ℕ
raised_cut cuts j = slice_set cuts j (slice_index cuts j + 1)

-- how many bytes the text of a piece's record has
abbrev pub piece_length : Option Piece → ℕ
piece_length None = 0
piece_length (Some p) = p.length

-- and how many those of the first n blocks have together
abbrev pub pieces_length : (pending : ℕ → Option Piece) (n : ℕ) → ℕ
pieces_length pending zero = 0
pieces_length pending (suc n) = pieces_length pending n + piece_length (pending n)
