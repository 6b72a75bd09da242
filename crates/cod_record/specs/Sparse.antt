-- The ranges that the second version of a record has for given bytes.
use Rattle.std.specs.Prelude.{ℕ, ◌+◌, ◌-◌, nat_lt, ◌==◌, if◌then◌else◌, List, [], ◌∷◌, ◌++◌, length, replicate}
use Rattle.cod_record.specs.Record.{Range, range, Record}

-- A byte that isn't 0, before ranges: it joins a range that begins fewer than eight places behind it, and is else a
-- range of its own.
unfoldable pub joined : (off byte : ℕ) → List Range → List Range
joined off byte [] = range off (byte ∷ []) ∷ []
joined off byte (g ∷ gs) =
    if nat_lt (g.off - (off + 1)) 8 then range off (byte ∷ (replicate (g.off - (off + 1)) 0 ++ g.bytes)) ∷ gs
    else range off (byte ∷ []) ∷ (g ∷ gs)

-- the ranges of bytes that stand from a place on, without the zeros at their ends and without runs of eight zeros or more
unfoldable pub ranges_of : (off : ℕ) (bytes : List ℕ) → List Range
ranges_of off [] = []
ranges_of off (byte ∷ bytes) = if byte == 0 then ranges_of (off + 1) bytes else joined off byte (ranges_of (off + 1) bytes)

-- how many bytes the texts of ranges have
abbrev pub ranges_length : List Range → ℕ
ranges_length [] = 0
ranges_length (g ∷ gs) = (8 + length g.bytes) + ranges_length gs

-- how many bytes the second version's text has
abbrev pub sparse_length : List Range → ℕ
sparse_length gs = 13 + ranges_length gs

-- the record of the second version for bytes at a place
abbrev pub sparse_record : (block number off : ℕ) (bytes : List ℕ) → Record
sparse_record block number off bytes = record { block = block; number = number; ranges = ranges_of off bytes }
