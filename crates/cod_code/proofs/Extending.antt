-- Bytes at as many columns as there are data columns, and the codeword that they begin.
use Rattle.std.proofs.Common.{◌≡◌, ℕ, zero, suc, ◌+◌, ◌<◌, ◌≤◌, ◌^◌, inl, inr, Bool, true, false, cond, refl, sym, ap, ◌∙◌, subst, arith, List, ◌∷◌, map, length, get_or}
use Rattle.std.specs.List.{range_with_len, filter}
use Rattle.std.proofs.Math.Nat.{lt_of_lt_of_le}
use Rattle.std.proofs.Math.Pow.{pow_mono}
use Rattle.std.proofs.lemmas.Bool.{cases_lt}
use Rattle.std.proofs.lemmas.List.FromFn.{get_or-map-range_with_len, length-map-range_with_len}
use Rattle.cod_code.specs.Codewords.{IsCodeword, value_at}
use Rattle.cod_code.specs.Columns.{columns_of, has_column}
use Rattle.cod_code.specs.Decoding.{SourcesBeginOneCodeword}
use Rattle.cod_code.proofs.Bytes.{are_bytes}
use Rattle.cod_code.proofs.CodewordLaws.{has_below}
use Rattle.cod_code.proofs.Count.{columns_count}
use Rattle.cod_code.proofs.Decoding.{decoded_is_place}
use Rattle.cod_code.proofs.Interpolation.{interpolation}
use Rattle.cod_code.proofs.Places.{filter_bytes, filter_distinct}
use Rattle.cod_code.proofs.Quotients.{IsIn}

in_step : (t a : ℕ) (b : Bool) (xs : List ℕ) → IsIn t xs → IsIn t (cond b (a ∷ xs) xs)
in_step t a true xs i = inr i
in_step t a false xs i = i

in_first : (a : ℕ) (b : Bool) (xs : List ℕ) → b ≡ true → IsIn a (cond b (a ∷ xs) xs)
in_first a true xs e = inl refl
in_first a false xs e = let wrong : ⊥ = cc in absurd wrong

-- the columns that pass are in the list
pub in_filter : (p : ℕ → Bool) (t a m : ℕ) → a ≤ t → t < a + m → p t ≡ true → IsIn t (filter p (range_with_len a m))
in_filter p t a zero low high e = absurd (omega arith)
in_filter p t a (suc m) low high e = elim (cases_lt a t) [
  | inl past ↦ in_step t a (p a) (filter p (range_with_len (a + 1) m)) (in_filter p t (a + 1) m (omega arith) (omega arith) e)
  | inr here ↦
      let same : t ≡ a = omega arith in
      let ea : p a ≡ true = ap p (sym same) ∙ e in
      let P : ℕ → Type 0 = λ u. IsIn u (cond (p a) (a ∷ filter p (range_with_len (a + 1) m)) (filter p (range_with_len (a + 1) m))) in
      subst P (sym same) (in_first a (p a) (filter p (range_with_len (a + 1) m)) ea)
]

pub sources_begin_one_codeword : SourcesBeginOneCodeword
unfolding columns_of
sources_begin_one_codeword n k sources byte most ones below small =
    let fits : sources < 2 ^ 16 = lt_of_lt_of_le below (pow_mono most) in
    let ps : List ℕ = filter (has_column sources) (range_with_len 0 16) in
    let size : length ps ≡ k = columns_count sources fits ∙ ones in
    let p = interpolation ps byte (filter_bytes (has_column sources) 0 16 (omega arith)) (filter_distinct (has_column sources) 0 16) small in
    let word : List ℕ = map (value_at p.0) (range_with_len 0 n) in
    let at : (i : ℕ) → i < n → get_or word i 0 ≡ value_at p.0 i = λ i lt. get_or-map-range_with_len (value_at p.0) 0 n i i 0 lt (omega arith) in
    let is : IsCodeword n k word = record {
      size = length-map-range_with_len (value_at p.0) 0 n;
      polynomial = (p.0, p.1 ∙ size, are_bytes p.0 p.2, at);
    } in
    let same : (j : ℕ) → has_column sources j ≡ true → get_or word j 0 ≡ byte j = λ j has.
    let lt : j < n = has_below sources n j below has in
    at j lt ∙ p.3 j (in_filter (has_column sources) j 0 16 (omega arith) (omega arith) has) (omega arith) in
    record {
      word = word;
      is = is;
      sources_are = same;
      decoded_are = λ i lt. decoded_is_place n k sources i word byte most is ones below lt (λ j has. sym (same j has));
    }
