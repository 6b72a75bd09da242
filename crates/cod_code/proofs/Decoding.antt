-- A column from other columns.
use Rattle.std.proofs.Common.{◌≡◌, ℕ, ◌^◌, ◌<◌, ◌≤◌, ◌+◌, inl, inr, Bool, true, bit_xor, refl, sym, ap, ap₂, ◌∙◌, arith, List, [], ◌∷◌, map, get_or, length}
use Rattle.std.proofs.Math.Nat.{lt_of_lt_of_le}
use Rattle.std.proofs.Math.Pow.{pow_mono}
use Rattle.std.specs.List.{range_with_len, filter}
use Rattle.std.proofs.lemmas.List.FromFn.{get_or-map-range_with_len}
use Rattle.cod_field.specs.Field.{product}
use Rattle.cod_code.specs.Columns.{combination, columns_of, has_column, weight, decode_row_at}
use Rattle.std.specs.Prelude.{count_ones, false}
use Rattle.cod_code.specs.Codewords.{IsCodeword}
use Rattle.cod_code.specs.Decoding.{decoded, DecodedIsPlace}
use Rattle.cod_code.proofs.Sums.{decode_row_place, decode_weight_elsewhere}
use Rattle.cod_code.proofs.Quotients.{IsIn, weight_lt}
use Rattle.cod_code.proofs.Interpolation.{total, total_nil, total_cons}
use Rattle.cod_code.proofs.Places.{filter_in, combination_total, row_by}
use Rattle.cod_code.proofs.Count.{columns_count}
use Rattle.cod_code.proofs.CodewordLaws.{decodes}

total_same : (f g : ℕ → ℕ) (ss : List ℕ) → ((t : ℕ) → IsIn t ss → f t ≡ g t) → total f ss ≡ total g ss
total_same f g [] h = total_nil f ∙ sym (total_nil g)
total_same f g (s ∷ ss) h =
    total_cons f s ss ∙ ap₂ bit_xor (h s (inl refl)) (total_same f g ss (λ t i. h t (inr i))) ∙ sym (total_cons g s ss)

-- a row that has zeros elsewhere reads only the places that pass the test
same_sum : (p : ℕ → Bool) (g : ℕ → ℕ) (v w : List ℕ) (m : ℕ) → ((j : ℕ) → g j < 256) → ((j : ℕ) → j < m → p j ≡ true → get_or v j 0 ≡ get_or w j 0)
    → combination (map (row_by p g) (range_with_len 0 m)) v ≡ combination (map (row_by p g) (range_with_len 0 m)) w
same_sum p g v w m hg same =
    combination_total p g v 0 m hg
    ∙ total_same (λ j. product (g j) (get_or v j 0)) (λ j. product (g j) (get_or w j 0)) (filter p (range_with_len 0 m))
    (λ t i. let h = filter_in p t 0 m i in let lt : t < 0 + m = h.1 in let below : t < m = omega arith in ap (product (g t)) (same t below h.0))
    ∙ sym (combination_total p g w 0 m hg)

pub decoded_is_place : DecodedIsPlace
unfolding decoded decode_row_at columns_of
decoded_is_place n k sources wanted v byte most c ones below h same =
    let small : sources < 2 ^ 16 = lt_of_lt_of_le below (pow_mono most) in
    let size : length (columns_of sources) ≡ k = columns_count sources small ∙ ones in
    same_sum (has_column sources) (λ j. weight (columns_of sources) j wanted) (map byte (range_with_len 0 16)) v 16 (λ j. weight_lt (columns_of sources) j wanted)
    (λ j lt is. get_or-map-range_with_len byte 0 16 j j 0 lt (omega arith) ∙ same j is)
    ∙ decodes n k v sources wanted most c size below h

combination_of : (h b : ℕ → ℕ) (ss : List ℕ) → combination (map h ss) (map b ss) ≡ total (λ j. product (h j) (b j)) ss
unfolding combination
combination_of h b [] = sym (total_nil (λ j. product (h j) (b j)))
combination_of h b (s ∷ ss) = ap (bit_xor (product (h s) (b s))) (combination_of h b ss) ∙ sym (total_cons (λ j. product (h j) (b j)) s ss)

-- the wanted byte by the list of the sources, in order, with no other places
pub decoded_by_sources : (sources wanted : ℕ) (byte : ℕ → ℕ)
    → decoded sources wanted byte ≡ combination (map (λ j. weight (columns_of sources) j wanted) (columns_of sources)) (map byte (columns_of sources))
unfolding decoded decode_row_at columns_of
decoded_by_sources sources wanted byte =
    let p = has_column sources in
    let g = λ (j : ℕ). weight (columns_of sources) j wanted in
    let all = map byte (range_with_len 0 16) in
    combination_total p g all 0 16 (λ j. weight_lt (columns_of sources) j wanted)
    ∙ total_same (λ j. product (g j) (get_or all j 0)) (λ j. product (g j) (byte j)) (filter p (range_with_len 0 16))
    (λ t i. let h = filter_in p t 0 16 i in let lt : t < 0 + 16 = h.1 in let below : t < 16 = omega arith in
    ap (product (g t)) (get_or-map-range_with_len byte 0 16 t t 0 below (omega arith)))
    ∙ sym (combination_of g byte (filter p (range_with_len 0 16)))

-- ---- what the row of `decode_row_at` does

pub row_elsewhere : (sources wanted j : ℕ) → j < 16 → has_column sources j ≡ false → get_or (decode_row_at sources wanted) j 0 ≡ 0
row_elsewhere sources wanted j lt none = decode_row_place sources wanted j lt ∙ decode_weight_elsewhere sources wanted j none

pub row_decodes : (n k sources wanted : ℕ) (v : List ℕ) → n ≤ 16 → IsCodeword n k v → count_ones sources ≡ k → sources < 2 ^ n → wanted < n
    → combination (decode_row_at sources wanted) v ≡ get_or v wanted 0
row_decodes n k sources wanted v most c ones below h =
    decodes n k v sources wanted most c (columns_count sources (lt_of_lt_of_le below (pow_mono most)) ∙ ones) below h
