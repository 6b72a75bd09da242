-- The codeword of k data bytes.
use Rattle.std.proofs.Common.{◌≡◌, ℕ, zero, suc, ◌+◌, ◌<◌, bit_xor, sym, ap, ap₂, ◌∙◌, subst, arith, List, [], ◌∷◌, map, length, get_or, set, take, slice_range, ◌≤◌}
use Rattle.std.specs.Int.Bits.{xor_assoc}
use Rattle.std.specs.List.{range_with_len}
use Rattle.std.proofs.lemmas.List.{ext_get_or, get_or-take}
use Rattle.std.proofs.lemmas.List.FromFn.{length-map-range_with_len, get_or-map-range_with_len}
use Rattle.std.proofs.lemmas.Nat.{xor_comm}
use Rattle.cod_field.specs.Field.{product}
use Rattle.cod_field.proofs.Laws.{product_add}
use Rattle.cod_code.specs.Codewords.{IsCodeword}
use Rattle.cod_code.proofs.Bytes.{EachByte, each_byte}
use Rattle.cod_code.specs.Columns.{gamma, combination}
use Rattle.cod_code.specs.Encoding.{coded, CodedIsCodeword, CodedChanges}
use Rattle.cod_code.proofs.Quotients.{weight_lt}
use Rattle.cod_code.proofs.Rows.{gamma_is}
use Rattle.cod_code.proofs.CodewordLaws.{data_begin_one_codeword, place_is_sum, take_range, combination_take}

-- the i-th byte of a codeword, by the data that it begins with
pub codeword_byte : (n k i : ℕ) (v bytes : List ℕ) → k ≤ n → n ≤ 256 → i < n → IsCodeword n k v → slice_range v 0 k ≡ bytes
    → get_or v i 0 ≡ coded k i bytes
unfolding coded
codeword_byte n k i v bytes le most h c front =
    let row = map (gamma k i) (range_with_len 0 k) in
    place_is_sum n k i v le most c h
    ∙ combination_take row v
    ∙ ap (λ m. combination row (take m v)) (length-map-range_with_len (gamma k i) 0 k)
    ∙ ap (combination row) (sym (take_range v k) ∙ front)

pub coded_is_codeword : CodedIsCodeword
coded_is_codeword n k bytes le most size b =
    let found = data_begin_one_codeword n k bytes le most size b in
    let v = found.0 in
    let c : IsCodeword n k v = found.1 in
    let front : take k v ≡ bytes = sym (take_range v k) ∙ found.2 in
    let at : (i : ℕ) → i < n → get_or v i 0 ≡ coded k i bytes = λ i h. codeword_byte n k i v bytes le most h c found.2 in
    let word = map (λ i. coded k i bytes) (range_with_len 0 n) in
    let word_long : length word ≡ n = length-map-range_with_len (λ i. coded k i bytes) 0 n in
    let same : v ≡ word =
    ext_get_or 0 v word (c.size ∙ sym word_long)
    (λ i h. let lt : i < n = omega (arith, c.size) in at i lt ∙ sym (get_or-map-range_with_len (λ j. coded k j bytes) 0 n i i 0 lt (omega arith))) in (
      subst (IsCodeword n k) same c,
      λ i h.
          let lt : i < n = omega arith in
          sym (at i lt) ∙ sym (get_or-take k v i 0 h) ∙ ap (λ (xs : List ℕ). get_or xs i 0) front,
    )

pub gamma_lt : (k i j : ℕ) → gamma k i j < 256
gamma_lt k i j = rw gamma_is (weight_lt (range_with_len 0 k) j i)

-- a row of a function of the place, from a on
changed : (g : ℕ → ℕ) (a j change : ℕ) (bytes : List ℕ) → ((m : ℕ) → g m < 256) → EachByte bytes → j < length bytes → change < 256
    → combination (map g (range_with_len a (length bytes))) (set bytes j (bit_xor (get_or bytes j 0) change))
    ≡ bit_xor (combination (map g (range_with_len a (length bytes))) bytes) (product (g (a + j)) change)
unfolding combination
changed g a j change [] hg b h hc = absurd (omega arith)
changed g a zero change (y ∷ ys) hg b h hc =
    let rest = combination (map g (range_with_len (a + 1) (length ys))) ys in
    let at : a ≡ a + 0 = omega arith in
    ap (λ q. bit_xor q rest) (product_add (g a) y change (hg a) b.0 hc)
    ∙ xor_assoc (product (g a) y) (product (g a) change) rest
    ∙ ap (bit_xor (product (g a) y)) (xor_comm (product (g a) change) rest)
    ∙ sym (xor_assoc (product (g a) y) rest (product (g a) change))
    ∙ ap (λ m. bit_xor (bit_xor (product (g a) y) rest) (product (g m) change)) at
changed g a (suc j) change (y ∷ ys) hg b h hc =
    let lt : j < length ys = omega arith in
    let at : a + 1 + j ≡ a + suc j = omega arith in
    ap (bit_xor (product (g a) y)) (changed g (a + 1) j change ys hg b.1 lt hc)
    ∙ sym (xor_assoc (product (g a) y) (combination (map g (range_with_len (a + 1) (length ys))) ys) (product (g (a + 1 + j)) change))
    ∙ ap (λ m. bit_xor (bit_xor (product (g a) y) (combination (map g (range_with_len (a + 1) (length ys))) ys)) (product (g m) change)) at

pub coded_changes : CodedChanges
unfolding coded
coded_changes k i j change bytes size b h hc =
    let lt : j < length bytes = omega arith in
    let at : 0 + j ≡ j = omega arith in
    ap (λ m. combination (map (gamma k i) (range_with_len 0 m)) (set bytes j (bit_xor (get_or bytes j 0) change))) (sym size)
    ∙ changed (gamma k i) 0 j change bytes (gamma_lt k i) (each_byte bytes b) lt hc
    ∙ ap₂ (λ m p. bit_xor (combination (map (gamma k i) (range_with_len 0 m)) bytes) (product (gamma k i p) change)) size at
