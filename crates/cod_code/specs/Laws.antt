-- The laws of the code.
use Rattle.std.specs.Prelude.{◌≡◌, ◌≢◌, ℕ, ◌<◌, ◌≤◌, List, length, map, replicate, slice_index, slice_range, Bool, true, count_by}
use Rattle.std.specs.List.{range_with_len}
use Rattle.cod_field.specs.Field.{product}
use Rattle.cod_code.specs.Codewords.{IsCodeword, AreBytes}
use Rattle.cod_code.specs.Columns.{quotient, gamma, combination}

-- the quotient of a by d is the one byte whose product with d is a
abbrev pub QuotientIsTheOne : Type 0
QuotientIsTheOne =
    (a d : ℕ)
    → a < 256 → d < 256 → d ≢ 0
    → (quotient a d < 256)
    × (product (quotient a d) d ≡ a)
    × ((q : ℕ) → q < 256 → product q d ≡ a → q ≡ quotient a d)

-- two codewords that are equal at k of their places are equal
abbrev pub AnyPlacesDetermine : Type 0
AnyPlacesDetermine =
    (n k : ℕ) (v w : List ℕ) (chosen : ℕ → Bool)
    → n ≤ 256 → IsCodeword n k v → IsCodeword n k w
    → count_by chosen (range_with_len 0 n) ≡ k
    → ((i : ℕ) → i < n → chosen i ≡ true → slice_index v i ≡ slice_index w i)
    → v ≡ w

-- k bytes begin exactly one codeword
abbrev pub DataBeginOneCodeword : Type 0
DataBeginOneCodeword =
    (n k : ℕ) (bytes : List ℕ)
    → k ≤ n → n ≤ 256 → length bytes ≡ k → AreBytes bytes
    → (v : List ℕ)
    × IsCodeword n k v
    × (slice_range v 0 k ≡ bytes)
    × ((w : List ℕ) → IsCodeword n k w → slice_range w 0 k ≡ bytes → w ≡ v)

-- each place of a codeword is the sum of the first k, each times its coefficient
abbrev pub PlaceIsSum : Type 0
PlaceIsSum =
    (n k i : ℕ) (v : List ℕ)
    → k ≤ n → n ≤ 256 → IsCodeword n k v → i < n
    → slice_index v i ≡ combination (map (gamma k i) (range_with_len 0 k)) v

-- the coefficients of each column add up to 1
abbrev pub CoefficientsAddUpToOne : Type 0
CoefficientsAddUpToOne =
    (k i : ℕ) → 1 ≤ k → k ≤ 256 → i < 256 → combination (map (gamma k i) (range_with_len 0 k)) (replicate k 1) ≡ 1
