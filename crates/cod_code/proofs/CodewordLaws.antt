-- The laws of the code.
use Rattle.std.proofs.Common.{◌≡◌, ◌≢◌, ℕ, zero, suc, ◌+◌, ◌<◌, ◌≤◌, Bool, true, false, cond, refl, sym, ap, ◌∙◌, subst, arith, List, [], ◌∷◌, map, length, get_or, take, slice_range, nat_lt, ◌-◌}
use Rattle.std.proofs.Common.{bit_xor, replicate, ⊎_elim, inl, inr}
use Rattle.std.specs.List.{range_with_len, filter}
use Rattle.std.proofs.lemmas.List.{ext_get_or, length-take-le, get_or-take, length-replicate, get_or-replicate}
use Rattle.std.proofs.lemmas.List.FromFn.{length-range_with_len, length-map-range_with_len, get_or-map-range_with_len}
use Rattle.std.proofs.Common.{ltb-true, eqb-true, ◌^◌}
use Rattle.std.specs.Int.{bit_at}
use Rattle.std.proofs.lemmas.Nat.Bits.{bit_at_above}
use Rattle.std.proofs.lemmas.Bool.{cases_eq, cases_lt}
use Rattle.std.proofs.lemmas.Bool.Decides.{nat_tests}
use Rattle.std.proofs.lemmas.List.Sums.{length-filter}
use Rattle.std.specs.Int.Bits.{xor_zero_r}
use Rattle.cod_field.specs.Field.{product}
use Rattle.cod_field.proofs.Laws.{product_zero}
use Rattle.cod_code.specs.Codewords.{IsCodeword, value_at}
use Rattle.cod_code.proofs.Bytes.{EachByte, each_byte, are_bytes}
use Rattle.cod_code.specs.Columns.{gamma, combination, weight, row_at, decode_row_at, columns_of, has_column}
use Rattle.cod_code.specs.Laws.{AnyPlacesDetermine, DataBeginOneCodeword, PlaceIsSum, CoefficientsAddUpToOne}
use Rattle.cod_code.proofs.Polynomials.{AreDistinct, value_cons}
use Rattle.cod_code.proofs.Quotients.{IsIn}
use Rattle.cod_code.proofs.Interpolation.{interpolation, equal_everywhere, zeros, zeros_length, zeros_bytes, zeros_value}
use Rattle.cod_code.proofs.Places.{filter_bytes, filter_distinct, filter_in, codeword_at, decoded, row_by}

-- only as many places count as the row has
pub combination_take : (xs ys : List ℕ) → combination xs ys ≡ combination xs (take (length xs) ys)
unfolding combination
combination_take [] ys = refl
combination_take (x ∷ xs) [] = refl
combination_take (x ∷ xs) (y ∷ ys) = ap (bit_xor (product x y)) (combination_take xs ys)

-- codewords that are equal at k points below n are equal
determined : (n k : ℕ) (v w : List ℕ) (ps : List ℕ) → n ≤ 256 → IsCodeword n k v → IsCodeword n k w
    → EachByte ps → AreDistinct ps → length ps ≡ k → ((t : ℕ) → IsIn t ps → (t < n) × (get_or v t 0 ≡ get_or w t 0)) → v ≡ w
determined n k v w ps le c d b ds size same =
    let at : (t : ℕ) → IsIn t ps → t < 256 → value_at c.polynomial.0 t ≡ value_at d.polynomial.0 t = λ t i ht.
    let h = same t i in
    sym (codeword_at n k v c t h.0) ∙ h.1 ∙ codeword_at n k w d t h.0 in
    let sizes : length v ≡ length w = c.size ∙ sym d.size in
    ext_get_or 0 v w sizes
    (λ i h.
    let lt : i < n = omega (arith, c.size) in
    codeword_at n k v c i lt
    ∙ equal_everywhere ps c.polynomial.0 d.polynomial.0 i b ds
    (c.polynomial.1 ∙ sym size) (d.polynomial.1 ∙ sym size) (each_byte c.polynomial.0 c.polynomial.2) (each_byte d.polynomial.0 d.polynomial.2) at (omega arith)
    ∙ sym (codeword_at n k w d i lt))

pub any_places_determine : AnyPlacesDetermine
any_places_determine n k v w chosen le c d size same =
    determined n k v w (filter chosen (range_with_len 0 n)) le c d
    (filter_bytes chosen 0 n (omega arith)) (filter_distinct chosen 0 n) (length-filter chosen (range_with_len 0 n) ∙ size)
    (λ t i. let h = filter_in chosen t 0 n i in let lt : t < 0 + n = h.1 in let below : t < n = omega arith in (below, same t below h.0))

all_pass : ℕ → Bool
all_pass j = true

filter_all : (a m : ℕ) → filter all_pass (range_with_len a m) ≡ range_with_len a m
unfolding all_pass
filter_all a zero = refl
filter_all a (suc m) = ap (λ (xs : List ℕ). a ∷ xs) (filter_all (a + 1) m)

pub take_range : (v : List ℕ) (k : ℕ) → slice_range v 0 k ≡ take k v
take_range v k = let e : k - 0 ≡ k = omega arith in ap (λ j. take j v) e

range_below : (t k : ℕ) → IsIn t (range_with_len 0 k) → t < k
range_below t k i =
    let h = filter_in all_pass t 0 k (subst (IsIn t) (sym (filter_all 0 k)) i) in
    let lt : t < 0 + k = h.1 in
    omega arith

in_range_from : (t a k : ℕ) → a ≤ t → t < a + k → IsIn t (range_with_len a k)
in_range_from t a zero h g = absurd (omega arith)
in_range_from t a (suc k) h g =
    ⊎_elim (λ (e : a ≡ t). inl e)
    (λ (e : a ≢ t). let above : a + 1 ≤ t = omega arith in let below : t < a + 1 + k = omega arith in inr (in_range_from t (a + 1) k above below))
    (cases_eq a t)

range_bytes : (k : ℕ) → k ≤ 256 → EachByte (range_with_len 0 k)
range_bytes k h = subst EachByte (filter_all 0 k) (filter_bytes all_pass 0 k (omega arith))

range_distinct : (k : ℕ) → AreDistinct (range_with_len 0 k)
range_distinct k = subst AreDistinct (filter_all 0 k) (filter_distinct all_pass 0 k)

pub data_begin_one_codeword : DataBeginOneCodeword
data_begin_one_codeword n k bytes le most size b =
    let ps = range_with_len 0 k in
    let found = interpolation ps (λ s. get_or bytes s 0) (range_bytes k (omega arith)) (range_distinct k) b in
    let p = found.0 in
    let v = map (value_at p) (range_with_len 0 n) in
    let at : (i : ℕ) → i < n → get_or v i 0 ≡ value_at p i = λ i h. get_or-map-range_with_len (value_at p) 0 n i i 0 h (omega arith) in
    let long : length v ≡ n = length-map-range_with_len (value_at p) 0 n in
    let c : IsCodeword n k v = record { size = long; polynomial = (p, found.1 ∙ length-range_with_len 0 k, are_bytes p found.2, at) } in
    let first : (i : ℕ) → i < k → get_or v i 0 ≡ get_or bytes i 0 = λ i h.
    let below : i < n = omega arith in
    let in_range : IsIn i ps = in_range_from i 0 k (omega arith) (omega arith) in
    at i below ∙ found.3 i in_range (omega arith) in
    let room : k ≤ length v = omega arith in
    let taken : length (take k v) ≡ k = length-take-le k v room in
    let front : take k v ≡ bytes =
    ext_get_or 0 (take k v) bytes (taken ∙ sym size)
    (λ i h. let lt : i < k = omega arith in get_or-take k v i 0 lt ∙ first i lt) in (
      v,
      c,
      take_range v k ∙ front,
      λ w d e.
          determined n k w v ps most d c (range_bytes k (omega arith)) (range_distinct k) (length-range_with_len 0 k)
          (λ t i.
          let lt : t < k = range_below t k i in
          let below : t < n = omega arith in
          (below, sym (get_or-take k w t 0 lt) ∙ ap (λ (xs : List ℕ). get_or xs t 0) (sym (take_range w k) ∙ e) ∙ sym (first t lt))),
    )

pub place_is_sum : PlaceIsSum
unfolding gamma weight all_pass
place_is_sum n k i v le most c h =
    let ps = filter all_pass (range_with_len 0 k) in
    let size : length ps ≡ k = ap length (filter_all 0 k) ∙ length-range_with_len 0 k in
    let e : combination (map (row_by all_pass (λ j. weight ps j i)) (range_with_len 0 k)) v ≡ get_or v i 0 =
    decoded n k v all_pass k i c most (omega arith) h size (λ t _ lt. omega arith) in
    sym (ap (λ qs. combination (map (row_by all_pass (λ j. weight qs j i)) (range_with_len 0 k)) v) (sym (filter_all 0 k)) ∙ e)

lt-ltb : (a k : ℕ) → a < k → nat_lt a k ≡ true
lt-ltb a k h = grind (arith, nat_tests)

le-nltb : (a k : ℕ) → k ≤ a → nat_lt a k ≡ false
le-nltb a k h = grind (arith, nat_tests)

filter_below : (k a m : ℕ) → k ≤ a + m → filter (λ j. nat_lt j k) (range_with_len a m) ≡ range_with_len a (k - a)
filter_below k a zero h = let e : 0 ≡ k - a = omega arith in ap (range_with_len a) e
filter_below k a (suc m) h =
    ⊎_elim
    (λ (lt : a < k).
    let more : k ≤ a + 1 + m = omega arith in
    let left : suc (k - (a + 1)) ≡ k - a = omega arith in
    ap (λ t. cond t (a ∷ filter (λ j. nat_lt j k) (range_with_len (a + 1) m)) (filter (λ j. nat_lt j k) (range_with_len (a + 1) m))) (lt-ltb a k lt)
    ∙ ap (λ (xs : List ℕ). a ∷ xs) (filter_below k (a + 1) m more)
    ∙ ap (range_with_len a) left)
    (λ (ge : k ≤ a).
    let more : k ≤ a + 1 + m = omega arith in
    let none : k - (a + 1) ≡ 0 = omega arith in
    let left : 0 ≡ k - a = omega arith in
    ap (λ t. cond t (a ∷ filter (λ j. nat_lt j k) (range_with_len (a + 1) m)) (filter (λ j. nat_lt j k) (range_with_len (a + 1) m))) (le-nltb a k ge)
    ∙ filter_below k (a + 1) m more
    ∙ ap (range_with_len (a + 1)) none
    ∙ ap (range_with_len a) left)
    (cases_lt a k)

pub has_below : (sources n t : ℕ) → sources < 2 ^ n → has_column sources t ≡ true → t < n
has_below sources n t below e =
    ⊎_elim (λ (lt : t < n). lt)
    (λ (le : n ≤ t). let none : bit_at sources t ≡ 0 = bit_at_above sources n t below le in
    let one : bit_at sources t ≡ 1 = eqb-true (bit_at sources t) 1 e in absurd (omega arith))
    (cases_lt t n)

pub row_sums : (n k i : ℕ) (v : List ℕ) → k ≤ n → n ≤ 16 → IsCodeword n k v → i < n → combination (row_at k i) v ≡ get_or v i 0
unfolding row_at gamma
row_sums n k i v le most c h =
    let p : ℕ → Bool = λ j. nat_lt j k in
    let ps = filter p (range_with_len 0 16) in
    let none : k - 0 ≡ k = omega arith in
    let is : ps ≡ range_with_len 0 k = filter_below k 0 16 (omega arith) ∙ ap (range_with_len 0) none in
    let size : length ps ≡ k = ap length is ∙ length-range_with_len 0 k in
    ap (λ qs. combination (map (row_by p (λ j. weight qs j i)) (range_with_len 0 16)) v) (sym is)
    ∙ decoded n k v p 16 i c (omega arith) (omega arith) h size (λ t e _. let lt : t < k = ltb-true t k e in omega arith)

-- the coefficients of the sources give each column
pub decodes : (n k : ℕ) (v : List ℕ) (sources wanted : ℕ) → n ≤ 16 → IsCodeword n k v → length (columns_of sources) ≡ k → sources < 2 ^ n → wanted < n
    → combination (decode_row_at sources wanted) v ≡ get_or v wanted 0
unfolding decode_row_at columns_of
decodes n k v sources wanted most c size below h =
    decoded n k v (has_column sources) 16 wanted c (omega arith) (omega arith) h size (λ t e _. has_below sources n t below e)

-- ---- the coefficients of a row

one_each : ℕ → ℕ
one_each j = 1

one_value : (m x : ℕ) → x < 256 → value_at (1 ∷ zeros m) x ≡ 1
one_value m x h = value_cons 1 (zeros m) x ∙ ap (bit_xor 1) (ap (product x) (zeros_value m x h) ∙ product_zero x h) ∙ xor_zero_r 1

ones_front : (k n : ℕ) → k ≤ n → take k (map one_each (range_with_len 0 n)) ≡ replicate {A = ℕ} k 1
unfolding one_each
ones_front k n le =
    let v = map one_each (range_with_len 0 n) in
    let long : length v ≡ n = length-map-range_with_len one_each 0 n in
    let room : k ≤ length v = omega arith in
    let taken : length (take k v) ≡ k = length-take-le k v room in
    ext_get_or 0 (take k v) (replicate {A = ℕ} k 1) (taken ∙ sym (length-replicate {A = ℕ} k 1))
    (λ j h.
    let lt : j < k = omega arith in
    let below : j < n = omega arith in
    get_or-take k v j 0 lt ∙ get_or-map-range_with_len one_each 0 n j j 0 below (omega arith) ∙ sym (get_or-replicate {A = ℕ} k j 1 0 lt))

-- the polynomial 1 has the value 1 everywhere
pub coefficients_add_up_to_one : CoefficientsAddUpToOne
unfolding one_each
coefficients_add_up_to_one zero i some most h = absurd (omega arith)
coefficients_add_up_to_one (suc m) i some most h =
    let k = suc m in
    let v = map one_each (range_with_len 0 256) in
    let at : (j : ℕ) → j < 256 → get_or v j 0 ≡ 1 = λ j lt. get_or-map-range_with_len one_each 0 256 j j 0 lt (omega arith) in
    let c : IsCodeword 256 k v = record {
      size = length-map-range_with_len one_each 0 256;
      polynomial = (1 ∷ zeros m, ap suc (zeros_length m), are_bytes (1 ∷ zeros m) (omega arith, zeros_bytes m), λ j lt. at j lt ∙ sym (one_value m j lt));
    } in
    let row = map (gamma k i) (range_with_len 0 k) in
    sym (sym (at i h)
    ∙ place_is_sum 256 k i v most (omega arith) c h
    ∙ combination_take row v
    ∙ ap (λ (n : ℕ). combination row (take n v)) (length-map-range_with_len (gamma k i) 0 k)
    ∙ ap (combination row) (ones_front k 256 most))
