-- The laws of records' texts.
use Rattle.std.specs.Prelude.{◌≡◌, ℕ, ◌+◌, ◌<◌, ◌^◌, List, ◌++◌, length}
use Rattle.cod_types.specs.Overwritten.{byte_at}
use Rattle.cod_record.specs.Head.{head_record, head_text, InRange}
use Rattle.cod_record.specs.declared.parts.Head.{Head}
use Rattle.cod_record.specs.Record.{AreSparse, IsRecord, Range, range_byte, Record}
use Rattle.cod_record.specs.Sparse.{ranges_of}

-- texts of records that begin one text are one record's
abbrev pub OneRecord : Type 0
OneRecord = (version other : ℕ) (r s : Record) (text text2 rest rest2 : List ℕ) → IsRecord version r text → IsRecord other s text2
    → text ++ rest ≡ text2 ++ rest2 → (version ≡ other) × (r ≡ s) × (rest ≡ rest2)

-- a head's text and as many bytes as it tells are a record's text
abbrev pub HeadBeginsRecord : Type 0
HeadBeginsRecord = (h : Head) (bytes : List ℕ) → InRange h → 19 + h.len < 2 ^ 32 → length bytes ≡ h.len
    → IsRecord 1 (head_record h bytes) (head_text h ++ bytes)

-- ranges that have the same byte at each place are the same ranges
abbrev pub OneSparseText : Type 0
OneSparseText = (gs hs : List Range) (from from2 : ℕ) → AreSparse from gs → AreSparse from2 hs
    → ((x : ℕ) → range_byte gs x ≡ range_byte hs x) → gs ≡ hs

-- the ranges of bytes at a place are the second version's, and have just those bytes
abbrev pub SparseRanges : Type 0
SparseRanges = (off : ℕ) (bytes : List ℕ) → off + length bytes < 2 ^ 32
    → AreSparse off (ranges_of off bytes) × ((x : ℕ) → range_byte (ranges_of off bytes) x ≡ byte_at x 0 off bytes)
