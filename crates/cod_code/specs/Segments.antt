-- The columns of a segment, whose bytes are k blocks of `block` bytes, one after the other.
use Rattle.std.specs.Prelude.{ℕ, ◌+◌, ◌*◌, List, map, slice_index}
use Rattle.std.specs.List.{range_with_len}
use Rattle.cod_code.specs.Encoding.{coded}

-- the k data bytes at a place of the blocks
unfoldable pub across : (k block : ℕ) (segment : List ℕ) (place : ℕ) → List ℕ
across k block segment place = map (λ j. slice_index segment (j * block + place)) (range_with_len 0 k)

-- the byte of column i at a place: that of the codeword that begins with the data bytes there
unfoldable pub column_byte : (k block i : ℕ) (segment : List ℕ) (place : ℕ) → ℕ
column_byte k block i segment place = coded k i (across k block segment place)

-- the bytes of column i
unfoldable pub column : (k block i : ℕ) (segment : List ℕ) → List ℕ
column k block i segment = map (column_byte k block i segment) (range_with_len 0 block)
