-- Polynomials as lists of coefficients.
use Rattle.std.proofs.Common.{◌≡◌, ◌≢◌, ℕ, suc, ◌<◌, ◌≤◌, bit_xor, refl, sym, ap, ap₂, ◌∙◌, arith, List, [], ◌∷◌, length}
use Rattle.std.specs.Int.Bits.{xor_assoc, xor_zero_r, xor_self}
use Rattle.std.proofs.lemmas.Nat.{xor_comm, xor_lt}
use Rattle.cod_field.specs.Field.{product}
use Rattle.cod_field.proofs.Laws.{xor_swap, product_lt, product_add, product_add_left, product_comm, product_assoc, product_zero}
use Rattle.cod_field.proofs.Tables.{product_cancel}
use Rattle.cod_code.specs.Codewords.{value_at}
use Rattle.cod_code.proofs.Bytes.{EachByte}

pub xor_equal : (a b : ℕ) → bit_xor a b ≡ 0 → a ≡ b
xor_equal a b e =
    sym (xor_zero_r a)
    ∙ ap (bit_xor a) (sym (xor_self b))
    ∙ sym (xor_assoc a b b)
    ∙ ap (λ x. bit_xor x b) e

pub xor_apart : (a b : ℕ) → a ≢ b → bit_xor a b ≢ 0
xor_apart a b n e = n (xor_equal a b e)

pub value_nil : (x : ℕ) → value_at [] x ≡ 0
unfolding value_at
value_nil x = refl

pub value_cons : (a : ℕ) (p : List ℕ) (x : ℕ) → value_at (a ∷ p) x ≡ bit_xor a (product x (value_at p x))
unfolding value_at
value_cons a p x = refl

pub value_lt : (p : List ℕ) (x : ℕ) → EachByte p → x < 256 → value_at p x < 256
value_lt [] x b h = rw value_nil (omega arith)
value_lt (a ∷ p) x b h = rw value_cons (xor_lt 8 a _ b.0 (product_lt x (value_at p x) h))

-- ---- roots

-- the quotient of the polynomial a ∷ p by (x - s)
pub divide : (s : ℕ) → List ℕ → List ℕ
divide s [] = []
divide s (a ∷ p) = value_at (a ∷ p) s ∷ divide s p

divide_bytes : (s : ℕ) (p : List ℕ) → s < 256 → EachByte p → EachByte (divide s p)
unfolding divide
divide_bytes s [] h b = tt
divide_bytes s (a ∷ p) h b = (value_lt (a ∷ p) s b h, divide_bytes s p h b.1)

divide_length : (s : ℕ) (p : List ℕ) → length (divide s p) ≡ length p
unfolding divide
divide_length s [] = refl
divide_length s (a ∷ p) = ap suc (divide_length s p)

-- (x + s) (y + z) where z = u + x w, for w with (x + s) w = v + u
step : (x s u v w : ℕ) → x < 256 → s < 256 → u < 256 → v < 256 → w < 256
    → bit_xor v u ≡ product (bit_xor x s) w
    → bit_xor (product x v) (product s u) ≡ product (bit_xor x s) (bit_xor u (product x w))
step x s u v w hx hs hu hv hw e =
    let d = bit_xor x s in
    let hd : d < 256 = xor_lt 8 x s hx hs in
    let right : product d (bit_xor u (product x w)) ≡ bit_xor (product d u) (product x (bit_xor v u)) =
    product_add d u (product x w) hd hu (product_lt x w hx)
    ∙ ap (bit_xor (product d u))
    (sym (product_assoc d x w hd hx hw) ∙ ap (λ q. product q w) (product_comm d x hd hx) ∙ product_assoc x d w hx hd hw ∙ ap (product x) (sym e)) in
    let left : bit_xor (product d u) (product x (bit_xor v u)) ≡ bit_xor (product x v) (product s u) =
    ap₂ bit_xor (product_add_left x s u hx hs) (product_add x v u hx hv hu ∙ xor_comm (product x v) (product x u))
    ∙ xor_swap (product x u) (product s u) (product x u) (product x v)
    ∙ ap (λ q. bit_xor q (bit_xor (product s u) (product x v))) (xor_self (product x u))
    ∙ xor_comm (product s u) (product x v) in
    sym (right ∙ left)

pub divides : (a : ℕ) (p : List ℕ) (s x : ℕ) → a < 256 → EachByte p → s < 256 → x < 256
    → bit_xor (value_at (a ∷ p) x) (value_at (a ∷ p) s) ≡ product (bit_xor x s) (value_at (divide s p) x)
unfolding divide
divides a [] s x ha b hs hx =
    let nothing : (y : ℕ) → y < 256 → value_at (a ∷ []) y ≡ a = λ y h.
    value_cons a [] y ∙ ap (λ q. bit_xor a (product y q)) (value_nil y) ∙ ap (bit_xor a) (product_zero y h) ∙ xor_zero_r a in
    ap₂ bit_xor (nothing x hx) (nothing s hs)
    ∙ xor_self a
    ∙ sym (ap (product (bit_xor x s)) (value_nil x) ∙ product_zero (bit_xor x s) (xor_lt 8 x s hx hs))
divides a (c ∷ p) s x ha b hs hx =
    let u = value_at (c ∷ p) s in
    let v = value_at (c ∷ p) x in
    let w = value_at (divide s p) x in
    let hu : u < 256 = value_lt (c ∷ p) s b hs in
    let hv : v < 256 = value_lt (c ∷ p) x b hx in
    let hw : w < 256 = value_lt (divide s p) x (divide_bytes s p hs b.1) hx in
    ap₂ bit_xor (value_cons a (c ∷ p) x) (value_cons a (c ∷ p) s)
    ∙ xor_swap a (product x v) a (product s u)
    ∙ ap (λ q. bit_xor q (bit_xor (product x v) (product s u))) (xor_self a)
    ∙ step x s u v w hx hs hu hv hw (divides c p s x b.0 b.1 hs hx)
    ∙ ap (product (bit_xor x s)) (sym (value_cons u (divide s p) x))

-- no point of the list is s
abbrev pub IsApart : ℕ → List ℕ → Type 0
IsApart s [] = Unit {0}
IsApart s (t ∷ ts) = (t ≢ s) × IsApart s ts

abbrev pub AreDistinct : List ℕ → Type 0
AreDistinct [] = Unit {0}
AreDistinct (s ∷ ss) = IsApart s ss × AreDistinct ss

-- each of these points is a root of p
abbrev pub AreRoots : List ℕ → List ℕ → Type 0
AreRoots p [] = Unit {0}
AreRoots p (s ∷ ss) = (value_at p s ≡ 0) × AreRoots p ss

roots_divide : (a : ℕ) (p : List ℕ) (s : ℕ) (ts : List ℕ) → a < 256 → EachByte p → s < 256 → EachByte ts → IsApart s ts
    → value_at (a ∷ p) s ≡ 0 → AreRoots (a ∷ p) ts → AreRoots (divide s p) ts
roots_divide a p s [] ha b hs bs apart e r = tt
roots_divide a p s (t ∷ ts) ha b hs bs apart e r =
    let d = bit_xor t s in
    let hd : d < 256 = xor_lt 8 t s bs.0 hs in
    let zero_product : product d (value_at (divide s p) t) ≡ 0 =
    sym (divides a p s t ha b hs bs.0) ∙ ap₂ bit_xor r.0 e in (
      product_cancel d (value_at (divide s p) t) hd (value_lt (divide s p) t (divide_bytes s p hs b) bs.0) (xor_apart t s apart.0) zero_product,
      roots_divide a p s ts ha b hs bs.1 apart.1 e r.1,
    )

-- a polynomial with at least as many roots as coefficients is 0 everywhere
pub no_more_roots : (ss p : List ℕ) (x : ℕ) → length p ≤ length ss → EachByte p → EachByte ss → AreDistinct ss → AreRoots p ss → x < 256 → value_at p x ≡ 0
no_more_roots [] [] x le b bs ds r hx = value_nil x
no_more_roots [] (a ∷ p) x le b bs ds r hx = absurd (omega arith)
no_more_roots (s ∷ ss) [] x le b bs ds r hx = value_nil x
no_more_roots (s ∷ ss) (a ∷ p) x le b bs ds r hx =
    let q = divide s p in
    let fewer : length q ≤ length ss = omega (arith, divide_length s p) in
    let nothing : value_at q x ≡ 0 =
    no_more_roots ss q x fewer (divide_bytes s p bs.0 b.1) bs.1 ds.1 (roots_divide a p s ss b.0 b.1 bs.0 bs.1 ds.0 r.0 r.1) hx in
    xor_equal (value_at (a ∷ p) x) (value_at (a ∷ p) s)
    (divides a p s x b.0 b.1 bs.0 hx ∙ ap (product (bit_xor x s)) nothing ∙ product_zero (bit_xor x s) (xor_lt 8 x s hx bs.0))
    ∙ r.0

-- ---- sums and multiples of polynomials with the same number of coefficients

pub sum_of : List ℕ → List ℕ → List ℕ
sum_of [] q = []
sum_of (a ∷ p) [] = []
sum_of (a ∷ p) (b ∷ q) = bit_xor a b ∷ sum_of p q

pub multiple : ℕ → List ℕ → List ℕ
multiple c [] = []
multiple c (a ∷ p) = product c a ∷ multiple c p

pub sum_length : (p q : List ℕ) → length p ≡ length q → length (sum_of p q) ≡ length q
unfolding sum_of
sum_length [] [] e = refl
sum_length [] (b ∷ q) e = e
sum_length (a ∷ p) [] e = refl
sum_length (a ∷ p) (b ∷ q) e = let e1 : length p ≡ length q = omega arith in ap suc (sum_length p q e1)

pub sum_bytes : (p q : List ℕ) → EachByte p → EachByte q → EachByte (sum_of p q)
unfolding sum_of
sum_bytes [] q h g = tt
sum_bytes (a ∷ p) [] h g = tt
sum_bytes (a ∷ p) (b ∷ q) h g = (xor_lt 8 a b h.0 g.0, sum_bytes p q h.1 g.1)

pub sum_value : (p q : List ℕ) (x : ℕ) → length p ≡ length q → EachByte p → EachByte q → x < 256
    → value_at (sum_of p q) x ≡ bit_xor (value_at p x) (value_at q x)
unfolding sum_of
sum_value [] [] x e h g hx = value_nil x ∙ sym (ap₂ bit_xor (value_nil x) (value_nil x))
sum_value [] (b ∷ q) x e h g hx = absurd (omega arith)
sum_value (a ∷ p) [] x e h g hx = absurd (omega arith)
sum_value (a ∷ p) (b ∷ q) x e h g hx =
    let e1 : length p ≡ length q = omega arith in
    value_cons (bit_xor a b) (sum_of p q) x
    ∙ ap (bit_xor (bit_xor a b))
    (ap (product x) (sum_value p q x e1 h.1 g.1 hx) ∙ product_add x (value_at p x) (value_at q x) hx (value_lt p x h.1 hx) (value_lt q x g.1 hx))
    ∙ xor_swap a b (product x (value_at p x)) (product x (value_at q x))
    ∙ sym (ap₂ bit_xor (value_cons a p x) (value_cons b q x))

pub multiple_length : (c : ℕ) (p : List ℕ) → length (multiple c p) ≡ length p
unfolding multiple
multiple_length c [] = refl
multiple_length c (a ∷ p) = ap suc (multiple_length c p)

pub multiple_bytes : (c : ℕ) (p : List ℕ) → c < 256 → EachByte (multiple c p)
unfolding multiple
multiple_bytes c [] h = tt
multiple_bytes c (a ∷ p) h = (product_lt c a h, multiple_bytes c p h)

pub multiple_value : (c : ℕ) (p : List ℕ) (x : ℕ) → c < 256 → EachByte p → x < 256 → value_at (multiple c p) x ≡ product c (value_at p x)
unfolding multiple
multiple_value c [] x hc h hx = value_nil x ∙ sym (ap (product c) (value_nil x) ∙ product_zero c hc)
multiple_value c (a ∷ p) x hc h hx =
    let v = value_at p x in
    let hv : v < 256 = value_lt p x h.1 hx in
    value_cons (product c a) (multiple c p) x
    ∙ ap (bit_xor (product c a))
    (ap (product x) (multiple_value c p x hc h.1 hx)
    ∙ sym (product_assoc x c v hx hc hv) ∙ ap (λ q. product q v) (product_comm x c hx hc) ∙ product_assoc c x v hc hx hv)
    ∙ sym (product_add c a (product x v) hc h.0 (product_lt x v hx))
    ∙ ap (product c) (sym (value_cons a p x))

-- the product of (x - m) and the polynomial, with `carry` added
pub by_root : (m carry : ℕ) → List ℕ → List ℕ
by_root m carry [] = carry ∷ []
by_root m carry (c ∷ p) = bit_xor carry (product m c) ∷ by_root m c p

pub by_root_length : (m carry : ℕ) (p : List ℕ) → length (by_root m carry p) ≡ suc (length p)
unfolding by_root
by_root_length m carry [] = refl
by_root_length m carry (c ∷ p) = ap suc (by_root_length m c p)

pub by_root_bytes : (m carry : ℕ) (p : List ℕ) → m < 256 → carry < 256 → EachByte p → EachByte (by_root m carry p)
unfolding by_root
by_root_bytes m carry [] hm hc h = (hc, tt)
by_root_bytes m carry (c ∷ p) hm hc h = (xor_lt 8 carry (product m c) hc (product_lt m c hm), by_root_bytes m c p hm h.0 h.1)

pub by_root_value : (m carry : ℕ) (p : List ℕ) (x : ℕ) → m < 256 → carry < 256 → EachByte p → x < 256
    → value_at (by_root m carry p) x ≡ bit_xor carry (product (bit_xor x m) (value_at p x))
unfolding by_root
by_root_value m carry [] x hm hc h hx =
    value_cons carry [] x
    ∙ ap (bit_xor carry)
    (ap (product x) (value_nil x) ∙ product_zero x hx
    ∙ sym (ap (product (bit_xor x m)) (value_nil x) ∙ product_zero (bit_xor x m) (xor_lt 8 x m hx hm)))
by_root_value m carry (c ∷ p) x hm hc h hx =
    let d = bit_xor x m in
    let v = value_at p x in
    let hd : d < 256 = xor_lt 8 x m hx hm in
    let hv : v < 256 = value_lt p x h.1 hx in
    let dv : product d v < 256 = product_lt d v hd in
    -- m c + x (c + d v) = d (c + x v)
    let inner : bit_xor (product m c) (product x (bit_xor c (product d v))) ≡ product d (bit_xor c (product x v)) =
    ap (bit_xor (product m c)) (product_add x c (product d v) hx h.0 dv)
    ∙ sym (xor_assoc (product m c) (product x c) (product x (product d v)))
    ∙ ap₂ bit_xor
    (xor_comm (product m c) (product x c) ∙ sym (product_add_left x m c hx hm))
    (sym (product_assoc x d v hx hd hv) ∙ ap (λ q. product q v) (product_comm x d hx hd) ∙ product_assoc d x v hd hx hv)
    ∙ sym (product_add d c (product x v) hd h.0 (product_lt x v hx)) in
    value_cons (bit_xor carry (product m c)) (by_root m c p) x
    ∙ ap (λ q. bit_xor (bit_xor carry (product m c)) (product x q)) (by_root_value m c p x hm h.0 h.1 hx)
    ∙ xor_assoc carry (product m c) (product x (bit_xor c (product d v)))
    ∙ ap (bit_xor carry) (inner ∙ ap (product d) (sym (value_cons c p x)))
