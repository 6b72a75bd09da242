-- Lists of columns by a test, and sums over rows of coefficients.
use Rattle.std.proofs.Common.{◌≡◌, ◌≢◌, ℕ, zero, suc, ◌+◌, ◌<◌, ◌≤◌, ⊎_elim, Bool, true, false, cond, bit_xor, refl, sym, ap, ap₂, ◌∙◌, subst, arith, List, [], ◌∷◌, ◌++◌, map, length, get_or, drop}
use Rattle.std.proofs.Common.{if◌then◌else◌}
use Rattle.std.proofs.lemmas.Bool.{cases_eq, cases_lt, cases_Bool}
use Rattle.std.proofs.Common.{add-one}
use Rattle.std.proofs.Math.Seq.{drop-cons}
use Rattle.std.proofs.lemmas.List.{drop_all, get_or_past}
use Rattle.std.specs.List.{range_with_len, filter}
use Rattle.cod_field.specs.Field.{product}
use Rattle.cod_field.proofs.Laws.{product_assoc, product_zero, product_zero_left, product_one_left}
use Rattle.cod_code.specs.Codewords.{value_at, IsCodeword}
use Rattle.cod_code.proofs.Bytes.{EachByte, each_byte}
use Rattle.cod_code.specs.Columns.{quotient, weight, combination}
use Rattle.cod_code.proofs.Polynomials.{IsApart, AreDistinct, value_lt}
use Rattle.cod_code.proofs.Quotients.{IsIn, quotient_lt, weight_nil, weight_skip, weight_step, weight_lt}
use Rattle.cod_code.proofs.Interpolation.{total, total_nil, total_cons, decoding}

-- ---- which columns a filtered range has

pub filter_bytes : (p : ℕ → Bool) (a m : ℕ) → a + m ≤ 256 → EachByte (filter p (range_with_len a m))
filter_bytes p a zero h = tt
filter_bytes p a (suc m) h =
    let rest : EachByte (filter p (range_with_len (a + 1) m)) = filter_bytes p (a + 1) m (omega arith) in
    elim (p a) as (λ t. EachByte (cond t (a ∷ filter p (range_with_len (a + 1) m)) (filter p (range_with_len (a + 1) m)))) [
      | true ↦ (omega arith, rest)
      | false ↦ rest
    ]

pub filter_apart : (p : ℕ → Bool) (t a m : ℕ) → t < a → IsApart t (filter p (range_with_len a m))
filter_apart p t a zero h = tt
filter_apart p t a (suc m) h =
    let rest : IsApart t (filter p (range_with_len (a + 1) m)) = filter_apart p t (a + 1) m (omega arith) in
    elim (p a) as (λ v. IsApart t (cond v (a ∷ filter p (range_with_len (a + 1) m)) (filter p (range_with_len (a + 1) m)))) [
      | true ↦ (omega arith, rest)
      | false ↦ rest
    ]

pub filter_distinct : (p : ℕ → Bool) (a m : ℕ) → AreDistinct (filter p (range_with_len a m))
filter_distinct p a zero = tt
filter_distinct p a (suc m) =
    let rest : AreDistinct (filter p (range_with_len (a + 1) m)) = filter_distinct p (a + 1) m in
    let apart : IsApart a (filter p (range_with_len (a + 1) m)) = filter_apart p a (a + 1) m (omega arith) in
    elim (p a) as (λ v. AreDistinct (cond v (a ∷ filter p (range_with_len (a + 1) m)) (filter p (range_with_len (a + 1) m)))) [
      | true ↦ (apart, rest)
      | false ↦ rest
    ]

filter_in_step : (p : ℕ → Bool) (t a m : ℕ) → (IsIn t (filter p (range_with_len (a + 1) m)) → (p t ≡ true) × (t < a + 1 + m))
    → IsIn t (filter p (a ∷ range_with_len (a + 1) m)) → (p t ≡ true) × (t < a + suc m)
filter_in_step p t a m ih i =
    let rest : IsIn t (filter p (range_with_len (a + 1) m)) → (p t ≡ true) × (t < a + suc m) = λ j. let h = ih j in let l : t < a + 1 + m = h.1 in (h.0, omega arith) in
    ⊎_elim
    (λ (e : p a ≡ true).
    let j : IsIn t (cond true (a ∷ filter p (range_with_len (a + 1) m)) (filter p (range_with_len (a + 1) m))) =
    subst (λ v. IsIn t (cond v (a ∷ filter p (range_with_len (a + 1) m)) (filter p (range_with_len (a + 1) m)))) e i in
    ⊎_elim (λ (g : a ≡ t). (ap p (sym g) ∙ e, omega arith)) rest j)
    (λ (e : p a ≡ false).
    rest (subst (λ v. IsIn t (cond v (a ∷ filter p (range_with_len (a + 1) m)) (filter p (range_with_len (a + 1) m)))) e i))
    (cases_Bool (p a))

pub filter_in : (p : ℕ → Bool) (t a m : ℕ) → IsIn t (filter p (range_with_len a m)) → (p t ≡ true) × (t < a + m)
filter_in p t a zero i = absurd i
filter_in p t a (suc m) i = filter_in_step p t a m (filter_in p t (a + 1) m) i

-- ---- the sum of a row and a word

combination_nil : (ys : List ℕ) → combination [] ys ≡ 0
unfolding combination
combination_nil ys = refl

combination_past : (x : ℕ) (xs : List ℕ) → combination (x ∷ xs) [] ≡ 0
unfolding combination
combination_past x xs = refl

combination_empty : (xs : List ℕ) → combination xs [] ≡ 0
combination_empty [] = combination_nil []
combination_empty (x ∷ xs) = combination_past x xs

combination_cons : (x : ℕ) (xs : List ℕ) (y : ℕ) (ys : List ℕ) → combination (x ∷ xs) (y ∷ ys) ≡ bit_xor (product x y) (combination xs ys)
unfolding combination
combination_cons x xs y ys = refl

-- the next place of the row
combination_drop : (x : ℕ) (xs v : List ℕ) (a : ℕ) → x < 256 → combination (x ∷ xs) (drop a v) ≡ bit_xor (product x (get_or v a 0)) (combination xs (drop (a + 1) v))
combination_drop x xs v a hx =
    ⊎_elim
    (λ (h : a < length v).
    ap (combination (x ∷ xs)) (drop-cons v a 0 h)
    ∙ combination_cons x xs (get_or v a 0) (drop (suc a) v)
    ∙ ap (λ j. bit_xor (product x (get_or v a 0)) (combination xs (drop j v))) (sym (add-one a)))
    (λ (h : length v ≤ a).
    let further : length v ≤ a + 1 = omega arith in
    ap (combination (x ∷ xs)) (drop_all a v h)
    ∙ combination_past x xs
    ∙ sym (ap₂ bit_xor (ap (product x) (get_or_past v a 0 h) ∙ product_zero x hx) (ap (combination xs) (drop_all (a + 1) v further) ∙ combination_empty xs)))
    (cases_lt a (length v))

-- a row that has h at the columns that pass the test, and zeros
abbrev pub row_by : (ℕ → Bool) → (ℕ → ℕ) → ℕ → ℕ
row_by p h j = if p j then h j else 0

row_by_lt : (p : ℕ → Bool) (h : ℕ → ℕ) (j : ℕ) → h j < 256 → row_by p h j < 256
row_by_lt p h j hh = elim (p j) as (λ t. (if t then h j else 0) < 256) [ true ↦ hh | false ↦ omega arith ]

chosen : (t : Bool) (x y : ℕ) (f : ℕ → ℕ) (a : ℕ) (ss : List ℕ) → f a ≡ product x y
    → bit_xor (product (if t then x else 0) y) (total f ss) ≡ total f (cond t (a ∷ ss) ss)
chosen true x y f a ss e = ap (λ q. bit_xor q (total f ss)) (sym e) ∙ sym (total_cons f a ss)
chosen false x y f a ss e = ap (λ q. bit_xor q (total f ss)) (product_zero_left y)

pub combination_total : (p : ℕ → Bool) (h : ℕ → ℕ) (v : List ℕ) (a m : ℕ) → ((j : ℕ) → h j < 256)
    → combination (map (row_by p h) (range_with_len a m)) (drop a v) ≡ total (λ j. product (h j) (get_or v j 0)) (filter p (range_with_len a m))
combination_total p h v a zero hh = combination_nil (drop a v) ∙ sym (total_nil (λ j. product (h j) (get_or v j 0)))
combination_total p h v a (suc m) hh =
    combination_drop (row_by p h a) (map (row_by p h) (range_with_len (a + 1) m)) v a (row_by_lt p h a (hh a))
    ∙ ap (bit_xor (product (row_by p h a) (get_or v a 0))) (combination_total p h v (a + 1) m hh)
    ∙ chosen (p a) (h a) (get_or v a 0) (λ j. product (h j) (get_or v j 0)) a (filter p (range_with_len (a + 1) m)) refl

-- ---- codewords

pub codeword_at : (n k : ℕ) (v : List ℕ) (c : IsCodeword n k v) (i : ℕ) → i < n → get_or v i 0 ≡ value_at (c.polynomial.0) i
codeword_at n k v c i h = c.polynomial.3 i h

pub codeword_lt : (n k : ℕ) (v : List ℕ) → IsCodeword n k v → n ≤ 256 → (i : ℕ) → get_or v i 0 < 256
codeword_lt n k v c le i =
    ⊎_elim
    (λ (h : i < n).
    let b : EachByte c.polynomial.0 = each_byte c.polynomial.0 c.polynomial.2 in
    rw (codeword_at n k v c i h) (value_lt c.polynomial.0 i b (omega arith)))
    (λ (h : n ≤ i). let past : length v ≤ i = omega (arith, c.size) in rw (get_or_past v i 0 past) (omega arith))
    (cases_lt i n)

-- any k columns below n give each column
pub decoded : (n k : ℕ) (v : List ℕ) (p : ℕ → Bool) (m wanted : ℕ) → IsCodeword n k v → n ≤ 256 → m ≤ 256 → wanted < n
    → length (filter p (range_with_len 0 m)) ≡ k → ((t : ℕ) → p t ≡ true → t < m → t < n)
    → combination (map (row_by p (λ j. weight (filter p (range_with_len 0 m)) j wanted)) (range_with_len 0 m)) v ≡ get_or v wanted 0
decoded n k v p m wanted c le lm hw size below =
    let ps = filter p (range_with_len 0 m) in
    let b : EachByte ps = filter_bytes p 0 m (omega arith) in
    let long : length c.polynomial.0 ≡ length ps = c.polynomial.1 ∙ sym size in
    let same : (t : ℕ) → IsIn t ps → t < 256 → value_at c.polynomial.0 t ≡ get_or v t 0 = λ t i ht.
    let h = filter_in p t 0 m i in
    let hm : t < 0 + m = h.1 in
    sym (codeword_at n k v c t (below t h.0 (omega arith))) in
    combination_total p (λ j. weight ps j wanted) v 0 m (λ j. weight_lt ps j wanted)
    ∙ sym (decoding ps c.polynomial.0 wanted b (filter_distinct p 0 m) long (each_byte c.polynomial.0 c.polynomial.2) (omega arith) (λ t. get_or v t 0) (codeword_lt n k v c le) same)
    ∙ sym (codeword_at n k v c wanted hw)

-- ---- the product of coefficients over one more point

pub weight_append : (xs ys : List ℕ) (s x : ℕ) → weight (xs ++ ys) s x ≡ product (weight xs s x) (weight ys s x)
weight_append [] ys s x = sym (ap (λ q. product q (weight ys s x)) (weight_nil s x) ∙ product_one_left (weight ys s x) (weight_lt ys s x))
weight_append (m ∷ xs) ys s x =
    ⊎_elim
    (λ (e : m ≡ s).
    weight_skip m (xs ++ ys) s x e ∙ weight_append xs ys s x ∙ ap (λ q. product q (weight ys s x)) (sym (weight_skip m xs s x e)))
    (λ (e : m ≢ s).
    let q = quotient (bit_xor x m) (bit_xor s m) in
    weight_step m (xs ++ ys) s x e
    ∙ ap (product q) (weight_append xs ys s x)
    ∙ sym (product_assoc q (weight xs s x) (weight ys s x) (quotient_lt (bit_xor x m) (bit_xor s m)) (weight_lt xs s x) (weight_lt ys s x))
    ∙ ap (λ r. product r (weight ys s x)) (sym (weight_step m xs s x e)))
    (cases_eq m s)
