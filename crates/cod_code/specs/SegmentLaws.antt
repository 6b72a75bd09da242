-- The laws of the columns of a segment.
use Rattle.std.specs.Prelude.{◌≡◌, ◌≢◌, ℕ, ◌+◌, ◌*◌, ◌^◌, ◌<◌, ◌≤◌, List, length, map, replicate, slice_index, slice_range, bit_xor, count_ones, true}
use Rattle.std.specs.List.{range_with_len}
use Rattle.cod_field.specs.Field.{product}
use Rattle.cod_code.specs.Codewords.{AreBytes, IsCodeword}
use Rattle.cod_code.specs.Columns.{gamma, row_at, has_column, combination, sum_below}
use Rattle.cod_code.specs.Decoding.{decoded}
use Rattle.cod_code.specs.Segments.{across, column_byte, column}

-- A list is column i exactly where it has, at each place of a block, the i-th byte of the codeword
-- that begins with the k data bytes of that place.
pub record HasCodewordBytes (n k block i : ℕ) (segment bytes : List ℕ) : Type 0 where
  pub size : length bytes ≡ block
  pub each : (place : ℕ) (v : List ℕ) → place < block → IsCodeword n k v → slice_range v 0 k ≡ across k block segment place
      → slice_index bytes place ≡ slice_index v i

abbrev pub ColumnHasCodewordBytes : Type 0
ColumnHasCodewordBytes =
    (n k block i : ℕ) (segment : List ℕ)
    → k ≤ n → n ≤ 256 → i < n → AreBytes segment
    → HasCodewordBytes n k block i segment (column k block i segment)
    × ((bytes : List ℕ) → HasCodewordBytes n k block i segment bytes → bytes ≡ column k block i segment)

-- the bytes of the n columns at a place are a codeword
abbrev pub ColumnsAreCodewords : Type 0
ColumnsAreCodewords =
    (n k block place : ℕ) (segment : List ℕ)
    → k ≤ n → n ≤ 256 → AreBytes segment
    → IsCodeword n k (map (λ i. column_byte k block i segment place) (range_with_len 0 n))

-- a data column is its block
abbrev pub DataColumnIsBlock : Type 0
DataColumnIsBlock =
    (k block j : ℕ) (segment : List ℕ)
    → k ≤ 256 → length segment ≡ k * block → AreBytes segment → j < k
    → column k block j segment ≡ slice_range segment (j * block) (j * block + block)

-- summing by the row of column i, place by place, gives the column
abbrev pub RowGivesColumn : Type 0
RowGivesColumn =
    (k block i : ℕ) (segment : List ℕ)
    → k ≤ 16
    → column k block i segment ≡ map (λ place. combination (row_at k i) (across k block segment place)) (range_with_len 0 block)

-- any k columns give each column, place by place, whatever stands for the columns that are not read
abbrev pub DecodingGivesColumn : Type 0
DecodingGivesColumn =
    (n k block sources wanted place : ℕ) (segment : List ℕ) (byte : ℕ → ℕ)
    → k ≤ n → n ≤ 16 → AreBytes segment → count_ones sources ≡ k → sources < 2 ^ n → wanted < n
    → ((j : ℕ) → has_column sources j ≡ true → byte j ≡ column_byte k block j segment place)
    → decoded sources wanted byte ≡ column_byte k block wanted segment place

-- a change of block j at a place changes column i there by its coefficient times the change
abbrev pub BlockChangesColumn : Type 0
BlockChangesColumn =
    (k block i j place change : ℕ) (before after : List ℕ)
    → AreBytes before → j < k → change < 256
    → slice_index after (j * block + place) ≡ bit_xor (slice_index before (j * block + place)) change
    → ((m : ℕ) → m < k → m ≢ j → slice_index after (m * block + place) ≡ slice_index before (m * block + place))
    → column_byte k block i after place ≡ bit_xor (column_byte k block i before place) (product (gamma k i j) change)

-- a place where no block changed keeps the bytes of all columns
abbrev pub OtherPlacesStay : Type 0
OtherPlacesStay =
    (k block i place : ℕ) (before after : List ℕ)
    → ((m : ℕ) → m < k → slice_index after (m * block + place) ≡ slice_index before (m * block + place))
    → column_byte k block i after place ≡ column_byte k block i before place

-- a segment of zeros has columns of zeros
abbrev pub ZerosHaveZeroColumns : Type 0
ZerosHaveZeroColumns =
    (k block i : ℕ) → column k block i (replicate (k * block) 0) ≡ replicate block 0

-- where each block changes at a place, each column does by the sum of the changes, each times its coefficient
abbrev pub BlocksChangeColumn : Type 0
BlocksChangeColumn =
    (k block i place : ℕ) (before after : List ℕ) (change : ℕ → ℕ)
    → AreBytes before → AreBytes after
    → ((j : ℕ) → j < k → slice_index after (j * block + place) ≡ bit_xor (slice_index before (j * block + place)) (change j))
    → column_byte k block i after place ≡ bit_xor (column_byte k block i before place) (sum_below (gamma k i) change k)
