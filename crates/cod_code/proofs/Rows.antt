-- Steps of the loops over columns.
use Rattle.std.proofs.Common.{◌≡◌, ◌≢◌, ℕ, zero, suc, ◌+◌, true, false, cond, bit_xor, refl, sym, ap, ◌∙◌, arith, List, [], ◌∷◌, ◌++◌}
use Rattle.std.specs.List.{range_with_len, filter}
use Rattle.std.proofs.lemmas.List.Elements.{filter-append}
use Rattle.cod_field.specs.Field.{product}
use Rattle.cod_field.proofs.Laws.{product_one}
use Rattle.cod_code.specs.Columns.{quotient, weight, columns_of, has_column, gamma}
use Rattle.cod_code.proofs.Quotients.{quotient_lt, weight_nil, weight_skip, weight_step, weight_lt}
use Rattle.cod_code.proofs.Places.{weight_append}

range_more_from : (a m : ℕ) → range_with_len a (suc m) ≡ range_with_len a m ++ (a + m) ∷ []
range_more_from a zero = let e : a ≡ a + 0 = omega arith in ap (λ (x : ℕ). x ∷ []) e
range_more_from a (suc m) =
    let e : a + 1 + m ≡ a + suc m = omega arith in
    ap (λ (xs : List ℕ). a ∷ xs) (range_more_from (a + 1) m ∙ ap (λ (x : ℕ). range_with_len (a + 1) m ++ x ∷ []) e)

pub range_more : (m : ℕ) → range_with_len 0 (m + 1) ≡ range_with_len 0 m ++ m ∷ []
range_more m =
    let e : m + 1 ≡ suc m = omega arith in
    let f : 0 + m ≡ m = omega arith in
    ap (range_with_len 0) e ∙ range_more_from 0 m ∙ ap (λ (x : ℕ). range_with_len 0 m ++ x ∷ []) f

pub weight_more_same : (ps : List ℕ) (m s x : ℕ) → m ≡ s → weight (ps ++ m ∷ []) s x ≡ weight ps s x
weight_more_same ps m s x e =
    weight_append ps (m ∷ []) s x ∙ ap (product (weight ps s x)) (weight_skip m [] s x e ∙ weight_nil s x) ∙ product_one (weight ps s x) (weight_lt ps s x)

pub weight_more_other : (ps : List ℕ) (m s x : ℕ) → m ≢ s → weight (ps ++ m ∷ []) s x ≡ product (weight ps s x) (quotient (bit_xor x m) (bit_xor s m))
weight_more_other ps m s x e =
    let q = quotient (bit_xor x m) (bit_xor s m) in
    weight_append ps (m ∷ []) s x
    ∙ ap (product (weight ps s x)) (weight_step m [] s x e ∙ ap (product q) (weight_nil s x) ∙ product_one q (quotient_lt (bit_xor x m) (bit_xor s m)))

pub range_none : (s x : ℕ) → 1 ≡ weight (range_with_len 0 0) s x
range_none s x = sym (weight_nil s x)

pub range_same : (m s x : ℕ) → m ≡ s → weight (range_with_len 0 (m + 1)) s x ≡ weight (range_with_len 0 m) s x
range_same m s x e = ap (λ ps. weight ps s x) (range_more m) ∙ weight_more_same (range_with_len 0 m) m s x e

pub range_other : (m s x : ℕ) → m ≢ s → weight (range_with_len 0 (m + 1)) s x ≡ product (weight (range_with_len 0 m) s x) (quotient (bit_xor x m) (bit_xor s m))
range_other m s x e = ap (λ ps. weight ps s x) (range_more m) ∙ weight_more_other (range_with_len 0 m) m s x e

pub gamma_is : (k i j : ℕ) → gamma k i j ≡ weight (range_with_len 0 k) j i
unfolding gamma
gamma_is k i j = refl

-- the columns below m whose bits are set
abbrev pub columns_below : (sources m : ℕ) → List ℕ
columns_below sources m = filter (has_column sources) (range_with_len 0 m)

pub columns_all : (sources : ℕ) → columns_of sources ≡ columns_below sources 16
unfolding columns_of
columns_all sources = refl

pub below_more : (sources m : ℕ) → columns_below sources (m + 1) ≡ columns_below sources m ++ cond (has_column sources m) (m ∷ []) []
below_more sources m =
    ap (filter (has_column sources)) (range_more m) ∙ filter-append (has_column sources) (range_with_len 0 m) (m ∷ [])

pub below_skip : (sources m s x : ℕ) → has_column sources m ≡ false → weight (columns_below sources (m + 1)) s x ≡ weight (columns_below sources m) s x
below_skip sources m s x e =
    ap (λ ps. weight ps s x) (below_more sources m)
    ∙ ap (λ t. weight (columns_below sources m ++ cond t (m ∷ []) []) s x) e
    ∙ weight_append (columns_below sources m) [] s x
    ∙ ap (product (weight (columns_below sources m) s x)) (weight_nil s x)
    ∙ product_one _ (weight_lt (columns_below sources m) s x)

below_same_true : (sources m s x : ℕ) → has_column sources m ≡ true → m ≡ s → weight (columns_below sources (m + 1)) s x ≡ weight (columns_below sources m) s x
below_same_true sources m s x t e =
    ap (λ ps. weight ps s x) (below_more sources m)
    ∙ ap (λ v. weight (columns_below sources m ++ cond v (m ∷ []) []) s x) t
    ∙ weight_more_same (columns_below sources m) m s x e

pub below_same : (sources m s x : ℕ) → m ≡ s → weight (columns_below sources (m + 1)) s x ≡ weight (columns_below sources m) s x
below_same sources m s x e =
    elim (has_column sources m) as (λ v. has_column sources m ≡ v → weight (columns_below sources (m + 1)) s x ≡ weight (columns_below sources m) s x) [
      | true ↦ λ t. below_same_true sources m s x t e
      | false ↦ λ t. below_skip sources m s x t
    ] refl

pub below_other : (sources m s x : ℕ) → has_column sources m ≡ true → m ≢ s
    → weight (columns_below sources (m + 1)) s x ≡ product (weight (columns_below sources m) s x) (quotient (bit_xor x m) (bit_xor s m))
below_other sources m s x t e =
    ap (λ ps. weight ps s x) (below_more sources m)
    ∙ ap (λ v. weight (columns_below sources m ++ cond v (m ∷ []) []) s x) t
    ∙ weight_more_other (columns_below sources m) m s x e
