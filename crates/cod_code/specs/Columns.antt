-- Coefficients by which one column is the sum of others.
use Rattle.std.specs.Prelude.{ℕ, ◌+◌, Bool, List, [], ◌∷◌, map, bit_xor, nat_eq, nat_lt, if◌then◌else◌}
use Rattle.std.proofs.Common.{zero, suc}
use Rattle.std.specs.List.{range_with_len, filter}
use Rattle.std.specs.Int.{bit_at}
use Rattle.cod_field.specs.Field.{product}

-- the first of the `count` numbers from `from` on whose product with d is a, and 0 where there is none
unfoldable pub quotient_from : (count from a d : ℕ) → ℕ
quotient_from zero from a d = 0
quotient_from (suc count) from a d = if nat_eq (product from d) a then from else quotient_from count (from + 1) a d

-- the one byte whose product with d is a, where d is not 0
unfoldable pub quotient : ℕ → ℕ → ℕ
quotient a d = quotient_from 256 0 a d

-- the product over the points m other than `point` of (x - m) / (point - m)
unfoldable pub weight : (points : List ℕ) (point x : ℕ) → ℕ
weight [] point x = 1
weight (m ∷ points) point x =
    if nat_eq m point then weight points point x
    else product (quotient (bit_xor x m) (bit_xor point m)) (weight points point x)

-- the coefficient of data column j in column i
unfoldable pub gamma : (k i j : ℕ) → ℕ
gamma k i j = weight (range_with_len 0 k) j i

-- whether the column is one of the sources, whose bits are set
abbrev pub has_column : (sources column : ℕ) → Bool
has_column sources column = nat_eq (bit_at sources column) 1

-- the columns whose bits are set, in order
unfoldable pub columns_of : ℕ → List ℕ
columns_of sources = filter (has_column sources) (range_with_len 0 16)

-- the coefficients of column i, zeros after them
unfoldable pub row_at : (k i : ℕ) → List ℕ
row_at k i = map (λ j. if nat_lt j k then gamma k i j else 0) (range_with_len 0 16)

-- the coefficients of the sources in the wanted column, zeros elsewhere
unfoldable pub decode_row_at : (sources wanted : ℕ) → List ℕ
decode_row_at sources wanted =
    map (λ j. if has_column sources j then weight (columns_of sources) j wanted else 0) (range_with_len 0 16)

-- the sum of the products of two lists, place by place
unfoldable pub combination : List ℕ → List ℕ → ℕ
combination [] ys = 0
combination (x ∷ xs) [] = 0
combination (x ∷ xs) (y ∷ ys) = bit_xor (product x y) (combination xs ys)

-- the sum over the first `count` places, where the place j has the coefficient c j and the byte b j
unfoldable pub sum_below : (coefficient byte : ℕ → ℕ) (count : ℕ) → ℕ
sum_below coefficient byte count = combination (map coefficient (range_with_len 0 count)) (map byte (range_with_len 0 count))
