-- What stands before the bytes of a record of the first version.
use Rattle.std.specs.Prelude.{ℕ, ◌<◌, ◌^◌, List, [], ◌∷◌, ◌++◌}
use Rattle.byteorder.specs.Endian.{big_bytes}
use Rattle.cod_record.specs.Record.{Record, range}
use Rattle.cod_record.specs.declared.parts.Head.{Head}

-- the version, the block, the number, the place in the block and the length
unfoldable pub head_text : Head → List ℕ
head_text h = 1 ∷ (big_bytes 2 h.block ++ big_bytes 8 h.number ++ big_bytes 4 h.off ++ big_bytes 4 h.len)

-- the record of a head and the bytes behind it
abbrev pub head_record : Head → (bytes : List ℕ) → Record
head_record h bytes = record { block = h.block; number = h.number; ranges = range h.off bytes ∷ [] }

-- the numbers of a head fit their places
pub record InRange (h : Head) : Type 0 where
  pub block : h.block < 2 ^ 16
  pub number : h.number < 2 ^ 64
  pub off : h.off < 2 ^ 32
  pub len : h.len < 2 ^ 32
