-- A column from other columns.
use Rattle.std.specs.Prelude.{◌≡◌, ℕ, ◌^◌, ◌<◌, ◌≤◌, List, map, slice_index, count_ones, true}
use Rattle.std.specs.List.{range_with_len}
use Rattle.cod_code.specs.Codewords.{IsCodeword}
use Rattle.cod_code.specs.Columns.{decode_row_at, has_column, combination}

-- the wanted byte by the bytes of the sources; what the other places hold doesn't matter
unfoldable pub decoded : (sources wanted : ℕ) → (ℕ → ℕ) → ℕ
decoded sources wanted byte = combination (decode_row_at sources wanted) (map byte (range_with_len 0 16))

abbrev pub DecodedIsPlace : Type 0
DecodedIsPlace =
    (n k sources wanted : ℕ) (v : List ℕ) (byte : ℕ → ℕ)
    → n ≤ 16 → IsCodeword n k v → count_ones sources ≡ k → sources < 2 ^ n → wanted < n
    → ((j : ℕ) → has_column sources j ≡ true → byte j ≡ slice_index v j)
    → decoded sources wanted byte ≡ slice_index v wanted

-- A codeword that has the bytes at the sources, and elsewhere what is decoded from them. By `DecodedIsPlace` it is the only
-- one that has them.
pub record Extends (n k sources : ℕ) (byte : ℕ → ℕ) : Type 0 where
  pub word : List ℕ
  pub is : IsCodeword n k word
  pub sources_are : (j : ℕ) → has_column sources j ≡ true → slice_index word j ≡ byte j
  pub decoded_are : (i : ℕ) → i < n → decoded sources i byte ≡ slice_index word i

-- bytes at as many columns as there are data columns are those of a codeword
abbrev pub SourcesBeginOneCodeword : Type 0
SourcesBeginOneCodeword =
    (n k sources : ℕ) (byte : ℕ → ℕ)
    → n ≤ 16 → count_ones sources ≡ k → sources < 2 ^ n → ((j : ℕ) → byte j < 256)
    → Extends n k sources byte
