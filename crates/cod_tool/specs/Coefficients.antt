-- The printed coefficients of a code.
use Rattle.std.specs.Prelude.{ℕ, ◌-◌, List, [], ◌∷◌, ◌++◌, map, codes, decimal}
use Rattle.std.specs.List.{flat_map, range_with_len}
use Rattle.cod_code.specs.Columns.{gamma}
use Rattle.cod_print.specs.Pieces.{hex_word}
use Rattle.cod_text.specs.Printed.{line_of}

-- the coefficient of data column j in column i, as two digits
abbrev pub coefficient_word : (k i j : ℕ) → List ℕ
coefficient_word k i j = hex_word (gamma k i j ∷ [])

-- the line of column i: its number and the coefficients of the k data columns
unfoldable pub row_text : (k i : ℕ) → List ℕ
row_text k i = line_of (decimal i ∷ map (coefficient_word k i) (range_with_len 0 k))

-- the numbers of columns and of data columns, and a line for each parity column
abbrev pub coefficients_text : (n k : ℕ) → List ℕ
coefficients_text n k = line_of (codes "code" ∷ decimal n ∷ decimal k ∷ []) ++ flat_map (row_text k) (range_with_len k (n - k))
