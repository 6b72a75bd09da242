-- The lines of a code's coefficients, in pieces.
use Rattle.std.proofs.Common.{◌≡◌, ℕ, ◌<◌, ◌≤◌, Bool, cond, List, [], ◌∷◌, ◌++◌, map, codes, decimal, refl, ap, ◌∙◌, append_assoc, arith}
use Rattle.std.specs.Prelude.{slice_index, nat_lt}
use Rattle.std.specs.List.{flat_map, range_with_len}
use Rattle.std.proofs.lemmas.Bool.{lt-ltb}
use Rattle.std.proofs.lemmas.List.FromFn.{get_or-map-range_with_len}
use Rattle.cod_code.specs.Columns.{gamma, row_at}
use Rattle.cod_print.specs.Pieces.{spaced}
use Rattle.cod_text.specs.Printed.{line_of}
use Rattle.cod_text.proofs.Spacing.{line_spaced}
use Rattle.cod_tool.specs.Coefficients.{coefficient_word, row_text}

-- a place of a row
pub coefficient : (k i j : ℕ) (row : List ℕ) → row ≡ row_at k i → j < k → k ≤ 16 → slice_index row j ≡ gamma k i j
unfolding row_at
coefficient k i j row is lt most =
    ap (λ (l : List ℕ). slice_index l j) is
    ∙ get_or-map-range_with_len (λ (m : ℕ). cond (nat_lt m k) (gamma k i m) 0) 0 16 j j 0 (omega arith) (omega arith)
    ∙ ap (λ (o : Bool). cond o (gamma k i j) 0) (lt-ltb j k lt)

-- words of a list, with a space before each
pub spaced_map : (f : ℕ → List ℕ) (xs : List ℕ) → spaced (map f xs) ≡ flat_map (λ j. 32 ∷ f j) xs
spaced_map f [] = refl
spaced_map f (x ∷ xs) = ap (λ (l : List ℕ). 32 ∷ (f x ++ l)) (spaced_map f xs)

-- a column's line in three pieces
pub row_parts : (k i : ℕ) → row_text k i ≡ decimal i ++ (flat_map (λ j. 32 ∷ coefficient_word k i j) (range_with_len 0 k) ++ 10 ∷ [])
unfolding row_text
row_parts k i =
    line_spaced (decimal i) (map (coefficient_word k i) (range_with_len 0 k))
    ∙ ap (λ (l : List ℕ). decimal i ++ (l ++ 10 ∷ [])) (spaced_map (coefficient_word k i) (range_with_len 0 k))

-- the first line in three pieces
pub head_parts : (n k : List ℕ) → line_of (codes "code" ∷ n ∷ k ∷ []) ≡ (codes "code " ++ n) ++ ((codes " " ++ k) ++ 10 ∷ [])
head_parts n k = ap (λ (l : List ℕ). codes "code " ++ l) (append_assoc n (32 ∷ k) (10 ∷ []))
