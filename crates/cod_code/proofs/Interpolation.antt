-- The polynomial with given values at given points, and the coefficients that give its value elsewhere.
use Rattle.std.proofs.Common.{◌≡◌, ◌≢◌, ℕ, zero, suc, ◌<◌, ◌≤◌, inl, inr, ⊎_elim, bit_xor, refl, sym, ap, ap₂, ◌∙◌, subst, arith, List, [], ◌∷◌, length}
use Rattle.std.specs.Int.Bits.{xor_zero_r, xor_self}
use Rattle.std.proofs.lemmas.Nat.{xor_lt}
use Rattle.std.proofs.lemmas.Bool.{cases_eq}
use Rattle.cod_field.specs.Field.{product}
use Rattle.cod_field.proofs.Laws.{product_lt, product_comm, product_assoc, product_zero, product_zero_left, product_one, product_one_left}
use Rattle.cod_code.specs.Codewords.{value_at}
use Rattle.cod_code.proofs.Bytes.{EachByte}
use Rattle.cod_code.specs.Columns.{quotient, weight}
use Rattle.cod_code.proofs.Polynomials.{IsApart, AreDistinct, AreRoots, xor_equal, value_nil, value_cons, sum_of, sum_length, sum_bytes, sum_value, multiple, multiple_length, multiple_bytes}
use Rattle.cod_code.proofs.Polynomials.{multiple_value, by_root, by_root_length, by_root_bytes, by_root_value, no_more_roots}
use Rattle.cod_code.proofs.Quotients.{IsIn, quotient_lt, quotient_unique, quotient_product, weight_nil, weight_skip, weight_step, weight_lt, weight_itself, weight_other}

-- the polynomial with the values weight ps s x
unfoldable pub basis : List ℕ → ℕ → List ℕ
basis [] s = 1 ∷ []
basis (m ∷ ps) s =
    ⊎_elim (λ (e : m ≡ s). basis ps s) (λ (e : m ≢ s). multiple (quotient 1 (bit_xor s m)) (by_root m 0 (basis ps s))) (cases_eq m s)

-- a quotient is a product with the inverse
quotient_times : (a d : ℕ) → a < 256 → d < 256 → d ≢ 0 → quotient a d ≡ product (quotient 1 d) a
quotient_times a d ha hd z =
    let i = quotient 1 d in
    let hi : i < 256 = quotient_lt 1 d in
    let one : product i d ≡ 1 = quotient_product 1 d (omega arith) hd z in
    sym (quotient_unique a d (product i a) ha hd z (product_lt i a hi)
    (ap (λ x. product x d) (product_comm i a hi ha) ∙ product_assoc a i d ha hi hd ∙ ap (product a) one ∙ product_one a ha))

pub basis_bytes : (ps : List ℕ) (s : ℕ) → EachByte (basis ps s)
unfolding basis
basis_bytes [] s = (omega arith, tt)
basis_bytes (m ∷ ps) s =
    elim (cases_eq m s) as (λ c. EachByte (⊎_elim (λ (e : m ≡ s). basis ps s) (λ (e : m ≢ s). multiple (quotient 1 (bit_xor s m)) (by_root m 0 (basis ps s))) c)) [
      | inl e ↦ basis_bytes ps s
      | inr e ↦ multiple_bytes (quotient 1 (bit_xor s m)) (by_root m 0 (basis ps s)) (quotient_lt 1 (bit_xor s m))
    ]

basis_other : (m : ℕ) (ps : List ℕ) (s x : ℕ) → m < 256 → s < 256 → x < 256 → m ≢ s
    → (q : List ℕ) → EachByte q → value_at q x ≡ weight ps s x
    → value_at (multiple (quotient 1 (bit_xor s m)) (by_root m 0 q)) x ≡ weight (m ∷ ps) s x
basis_other m ps s x hm hs hx e q b is =
    let d = bit_xor s m in
    let hd : d < 256 = xor_lt 8 s m hs hm in
    let n = bit_xor x m in
    let hn : n < 256 = xor_lt 8 x m hx hm in
    let i = quotient 1 d in
    let hi : i < 256 = quotient_lt 1 d in
    let apart : d ≢ 0 = λ same. e (sym (xor_equal s m same)) in
    multiple_value i (by_root m 0 q) x hi (by_root_bytes m 0 q hm (omega arith) b) hx
    ∙ ap (product i) (by_root_value m 0 q x hm (omega arith) b hx ∙ ap (product n) is)
    ∙ sym (product_assoc i n (weight ps s x) hi hn (weight_lt ps s x))
    ∙ ap (λ r. product r (weight ps s x)) (sym (quotient_times n d hn hd apart))
    ∙ sym (weight_step m ps s x e)

pub basis_value : (ps : List ℕ) (s x : ℕ) → EachByte ps → s < 256 → x < 256 → value_at (basis ps s) x ≡ weight ps s x
unfolding basis
basis_value [] s x b hs hx =
    value_cons 1 [] x ∙ ap (λ q. bit_xor 1 (product x q)) (value_nil x) ∙ ap (bit_xor 1) (product_zero x hx) ∙ sym (weight_nil s x)
basis_value (m ∷ ps) s x b hs hx =
    elim (cases_eq m s) as (λ c. value_at (⊎_elim (λ (e : m ≡ s). basis ps s) (λ (e : m ≢ s). multiple (quotient 1 (bit_xor s m)) (by_root m 0 (basis ps s))) c) x ≡ weight (m ∷ ps) s x) [
      | inl e ↦ basis_value ps s x b.1 hs hx ∙ sym (weight_skip m ps s x e)
      | inr e ↦ basis_other m ps s x b.0 hs hx e (basis ps s) (basis_bytes ps s) (basis_value ps s x b.1 hs hx)
    ]

-- with one coefficient more than there are points other than s
pub basis_length_apart : (ps : List ℕ) (s : ℕ) → IsApart s ps → length (basis ps s) ≡ suc (length ps)
unfolding basis
basis_length_apart [] s a = refl
basis_length_apart (m ∷ ps) s a =
    elim (cases_eq m s) as (λ c. length (⊎_elim (λ (e : m ≡ s). basis ps s) (λ (e : m ≢ s). multiple (quotient 1 (bit_xor s m)) (by_root m 0 (basis ps s))) c) ≡ suc (suc (length ps))) [
      | inl e ↦ absurd (a.0 e)
      | inr e ↦
          multiple_length (quotient 1 (bit_xor s m)) (by_root m 0 (basis ps s))
          ∙ by_root_length m 0 (basis ps s)
          ∙ ap suc (basis_length_apart ps s a.1)
    ]

apart_from : (m s : ℕ) (ps : List ℕ) → m ≡ s → IsApart m ps → IsApart s ps
apart_from m s ps e a = subst (λ t. IsApart t ps) e a

apart_in : (m s : ℕ) (ps : List ℕ) → IsApart m ps → IsIn s ps → m ≢ s
apart_in m s [] a i = absurd i
apart_in m s (p ∷ ps) a i =
    ⊎_elim (λ (e : p ≡ s). λ same. a.0 (e ∙ sym same)) (λ (g : IsIn s ps). apart_in m s ps a.1 g) i

pub basis_length : (ps : List ℕ) (s : ℕ) → AreDistinct ps → IsIn s ps → length (basis ps s) ≡ length ps
unfolding basis
basis_length [] s d i = absurd i
basis_length (m ∷ ps) s d i =
    elim (cases_eq m s) as (λ c. length (⊎_elim (λ (e : m ≡ s). basis ps s) (λ (e : m ≢ s). multiple (quotient 1 (bit_xor s m)) (by_root m 0 (basis ps s))) c) ≡ suc (length ps)) [
      | inl e ↦ basis_length_apart ps s (apart_from m s ps e d.0)
      | inr e ↦
          multiple_length (quotient 1 (bit_xor s m)) (by_root m 0 (basis ps s))
          ∙ by_root_length m 0 (basis ps s)
          ∙ ap suc (basis_length ps s d.1 (⊎_elim (λ (g : m ≡ s). absurd (e g)) (λ (g : IsIn s ps). g) i))
    ]

-- ---- sums over points

-- the sum of f over the points
unfoldable pub total : (ℕ → ℕ) → List ℕ → ℕ
total f [] = 0
total f (s ∷ ss) = bit_xor (f s) (total f ss)

pub total_nil : (f : ℕ → ℕ) → total f [] ≡ 0
unfolding total
total_nil f = refl

pub total_cons : (f : ℕ → ℕ) (s : ℕ) (ss : List ℕ) → total f (s ∷ ss) ≡ bit_xor (f s) (total f ss)
unfolding total
total_cons f s ss = refl

-- these points are all among those
abbrev pub AreAmong : List ℕ → List ℕ → Type 0
AreAmong [] ps = Unit {0}
AreAmong (s ∷ ss) ps = IsIn s ps × AreAmong ss ps

among_more : (m : ℕ) (ss ps : List ℕ) → AreAmong ss ps → AreAmong ss (m ∷ ps)
among_more m [] ps a = tt
among_more m (s ∷ ss) ps a = (inr a.0, among_more m ss ps a.1)

pub among_itself : (ps : List ℕ) → AreAmong ps ps
among_itself [] = tt
among_itself (m ∷ ps) = (inl refl, among_more m ps ps (among_itself ps))

-- f's values, each times the coefficient of its point
abbrev pub weighted : List ℕ → (ℕ → ℕ) → ℕ → ℕ → ℕ
weighted ps f x s = product (weight ps s x) (f s)

total_none : (ps : List ℕ) (f : ℕ → ℕ) (t : ℕ) (ss : List ℕ) → EachByte ps → EachByte ss → IsIn t ps → IsApart t ss → total (weighted ps f t) ss ≡ 0
total_none ps f t [] b bs i a = total_nil (weighted ps f t)
total_none ps f t (s ∷ ss) b bs i a =
    let n : t ≢ s = λ e. a.0 (sym e) in
    total_cons (weighted ps f t) s ss
    ∙ ap₂ bit_xor (ap (λ q. product q (f s)) (weight_other ps s t b bs.0 n i) ∙ product_zero_left (f s)) (total_none ps f t ss b bs.1 i a.1)

-- at a point of the list the sum has that value
total_one : (ps : List ℕ) (f : ℕ → ℕ) (t : ℕ) (ss : List ℕ) → EachByte ps → EachByte ss → IsIn t ps → AreDistinct ss → IsIn t ss → ((s : ℕ) → f s < 256) → total (weighted ps f t) ss ≡ f t
total_one ps f t [] b bs i d j h = absurd j
total_one ps f t (s ∷ ss) b bs i d j h =
    ⊎_elim
    (λ (e : s ≡ t).
    total_cons (weighted ps f t) s ss
    ∙ ap₂ bit_xor
    (ap (λ r. product (weight ps r t) (f r)) e ∙ ap (λ q. product q (f t)) (weight_itself ps t b (subst (λ r. r < 256) e bs.0)) ∙ product_one_left (f t) (h t))
    (total_none ps f t ss b bs.1 i (apart_from s t ss e d.0))
    ∙ xor_zero_r (f t))
    (λ (g : IsIn t ss).
    let n : t ≢ s = λ e. apart_in s t ss d.0 g (sym e) in
    total_cons (weighted ps f t) s ss
    ∙ ap₂ bit_xor (ap (λ q. product q (f s)) (weight_other ps s t b bs.0 n i) ∙ product_zero_left (f s)) (total_one ps f t ss b bs.1 i d.1 g h))
    j

-- ---- interpolation

pub zeros : ℕ → List ℕ
zeros zero = []
zeros (suc n) = 0 ∷ zeros n

pub zeros_length : (n : ℕ) → length (zeros n) ≡ n
unfolding zeros
zeros_length zero = refl
zeros_length (suc n) = ap suc (zeros_length n)

pub zeros_bytes : (n : ℕ) → EachByte (zeros n)
unfolding zeros
zeros_bytes zero = tt
zeros_bytes (suc n) = (omega arith, zeros_bytes n)

pub zeros_value : (n x : ℕ) → x < 256 → value_at (zeros n) x ≡ 0
unfolding zeros
zeros_value zero x h = value_nil x
zeros_value (suc n) x h = value_cons 0 (zeros n) x ∙ ap (product x) (zeros_value n x h) ∙ product_zero x h

interpolated : List ℕ → (ℕ → ℕ) → List ℕ → List ℕ
interpolated ps f [] = zeros (length ps)
interpolated ps f (s ∷ ss) = sum_of (multiple (f s) (basis ps s)) (interpolated ps f ss)

interpolated_length : (ps : List ℕ) (f : ℕ → ℕ) (ss : List ℕ) → AreDistinct ps → AreAmong ss ps → length (interpolated ps f ss) ≡ length ps
unfolding interpolated
interpolated_length ps f [] d a = zeros_length (length ps)
interpolated_length ps f (s ∷ ss) d a =
    let long : length (multiple (f s) (basis ps s)) ≡ length ps = multiple_length (f s) (basis ps s) ∙ basis_length ps s d a.0 in
    let rest : length (interpolated ps f ss) ≡ length ps = interpolated_length ps f ss d a.1 in
    sum_length (multiple (f s) (basis ps s)) (interpolated ps f ss) (long ∙ sym rest) ∙ rest

interpolated_bytes : (ps : List ℕ) (f : ℕ → ℕ) (ss : List ℕ) → ((s : ℕ) → f s < 256) → EachByte (interpolated ps f ss)
unfolding interpolated
interpolated_bytes ps f [] h = zeros_bytes (length ps)
interpolated_bytes ps f (s ∷ ss) h =
    sum_bytes (multiple (f s) (basis ps s)) (interpolated ps f ss) (multiple_bytes (f s) (basis ps s) (h s)) (interpolated_bytes ps f ss h)

interpolated_value : (ps : List ℕ) (f : ℕ → ℕ) (ss : List ℕ) (x : ℕ) → EachByte ps → EachByte ss → AreDistinct ps → AreAmong ss ps → ((s : ℕ) → f s < 256) → x < 256
    → value_at (interpolated ps f ss) x ≡ total (weighted ps f x) ss
unfolding interpolated
interpolated_value ps f [] x b bs d a h hx = zeros_value (length ps) x hx ∙ sym (total_nil (weighted ps f x))
interpolated_value ps f (s ∷ ss) x b bs d a h hx =
    let long : length (multiple (f s) (basis ps s)) ≡ length ps = multiple_length (f s) (basis ps s) ∙ basis_length ps s d a.0 in
    let rest : length (interpolated ps f ss) ≡ length ps = interpolated_length ps f ss d a.1 in
    sum_value (multiple (f s) (basis ps s)) (interpolated ps f ss) x (long ∙ sym rest) (multiple_bytes (f s) (basis ps s) (h s)) (interpolated_bytes ps f ss h) hx
    ∙ ap₂ bit_xor
    (multiple_value (f s) (basis ps s) x (h s) (basis_bytes ps s) hx
    ∙ ap (product (f s)) (basis_value ps s x b bs.0 hx)
    ∙ product_comm (f s) (weight ps s x) (h s) (weight_lt ps s x))
    (interpolated_value ps f ss x b bs.1 d a.1 h hx)
    ∙ sym (total_cons (weighted ps f x) s ss)

-- there is a polynomial with a coefficient for each point that has the values of f at the points
pub interpolation : (ps : List ℕ) (f : ℕ → ℕ) → EachByte ps → AreDistinct ps → ((s : ℕ) → f s < 256)
    → (p : List ℕ) × (length p ≡ length ps) × EachByte p × ((t : ℕ) → IsIn t ps → t < 256 → value_at p t ≡ f t)
interpolation ps f b d h = (
  interpolated ps f ps,
  interpolated_length ps f ps d (among_itself ps),
  interpolated_bytes ps f ps h,
  λ t i ht. interpolated_value ps f ps t b b d (among_itself ps) h ht ∙ total_one ps f t ps b b i d i h,
)

roots_of : (q ss : List ℕ) → EachByte ss → ((t : ℕ) → IsIn t ss → t < 256 → value_at q t ≡ 0) → AreRoots q ss
roots_of q [] b h = tt
roots_of q (s ∷ ss) b h = (h s (inl refl) b.0, roots_of q ss b.1 (λ t i ht. h t (inr i) ht))

-- polynomials with at most as many coefficients as there are points, and equal there, are equal everywhere
pub equal_everywhere : (ps p q : List ℕ) (x : ℕ) → EachByte ps → AreDistinct ps → length p ≡ length ps → length q ≡ length ps → EachByte p → EachByte q
    → ((t : ℕ) → IsIn t ps → t < 256 → value_at p t ≡ value_at q t) → x < 256 → value_at p x ≡ value_at q x
equal_everywhere ps p q x b d lp lq bp bq same hx =
    let le : length (sum_of p q) ≤ length ps = omega (arith, sum_length p q (lp ∙ sym lq)) in
    let rooted : (t : ℕ) → IsIn t ps → t < 256 → value_at (sum_of p q) t ≡ 0 = λ t i ht.
    sum_value p q t (lp ∙ sym lq) bp bq ht ∙ ap (λ r. bit_xor r (value_at q t)) (same t i ht) ∙ xor_self (value_at q t) in
    xor_equal (value_at p x) (value_at q x)
    (sym (sum_value p q x (lp ∙ sym lq) bp bq hx)
    ∙ no_more_roots ps (sum_of p q) x le (sum_bytes p q bp bq) b d (roots_of (sum_of p q) ps b rooted) hx)

-- the value at x is the sum of the values at the points, each times its coefficient
pub decoding : (ps p : List ℕ) (x : ℕ) → EachByte ps → AreDistinct ps → length p ≡ length ps → EachByte p → x < 256
    → (f : ℕ → ℕ) → ((s : ℕ) → f s < 256) → ((t : ℕ) → IsIn t ps → t < 256 → value_at p t ≡ f t)
    → value_at p x ≡ total (weighted ps f x) ps
decoding ps p x b d lp bp hx f h same =
    equal_everywhere ps p (interpolated ps f ps) x b d lp (interpolated_length ps f ps d (among_itself ps)) bp (interpolated_bytes ps f ps h)
    (λ t i ht. same t i ht ∙ sym (interpolated_value ps f ps t b b d (among_itself ps) h ht ∙ total_one ps f t ps b b i d i h)) hx
    ∙ interpolated_value ps f ps x b b d (among_itself ps) h hx
