-- Quotients and the coefficients made of them.
use Rattle.std.proofs.Common.{◌≡◌, ◌≢◌, ℕ, zero, suc, ◌+◌, ◌<◌, ◌≤◌, ◌⊎◌, ⊎_elim, bit_xor, refl, sym, ap, ap₂, ◌∙◌, arith, List, [], ◌∷◌}
use Rattle.std.specs.Int.Bits.{xor_self}
use Rattle.std.proofs.lemmas.Nat.{xor_lt}
use Rattle.std.proofs.lemmas.Bool.{cases_eq}
use Rattle.std.proofs.lemmas.Bool.Decides.{nat_tests}
use Rattle.cod_field.specs.Field.{product}
use Rattle.cod_field.proofs.Laws.{product_lt, product_add, product_comm, product_assoc, product_zero, product_zero_left, product_one, product_one_left}
use Rattle.cod_field.proofs.Tables.{inverse, product_cancel}
use Rattle.cod_code.proofs.Bytes.{EachByte}
use Rattle.cod_code.specs.Columns.{quotient_from, quotient, weight}
use Rattle.cod_code.specs.Laws.{QuotientIsTheOne}
use Rattle.cod_code.proofs.Polynomials.{xor_equal}

from_zero : (from a d : ℕ) → quotient_from 0 from a d ≡ 0
unfolding quotient_from
from_zero from a d = refl

from_found : (n from a d : ℕ) → product from d ≡ a → quotient_from (suc n) from a d ≡ from
unfolding quotient_from
from_found n from a d e = rw e (grind (arith, nat_tests))

from_next : (n from a d : ℕ) → product from d ≢ a → quotient_from (suc n) from a d ≡ quotient_from n (from + 1) a d
unfolding quotient_from
from_next n from a d e = grind (arith, nat_tests)

from_lt : (n from a d : ℕ) → from + n ≤ 256 → quotient_from n from a d < 256
from_lt zero from a d h = rw from_zero (omega arith)
from_lt (suc n) from a d h =
    let one_more : from + 1 + n ≤ 256 = omega arith in
    ⊎_elim
    (λ (e : product from d ≡ a). rw (from_found n from a d e) (omega arith))
    (λ (e : product from d ≢ a). rw (from_next n from a d e) (from_lt n (from + 1) a d one_more))
    (cases_eq (product from d) a)

from_is : (n from a d q : ℕ) → from ≤ q → q < from + n → product q d ≡ a → product (quotient_from n from a d) d ≡ a
from_is zero from a d q h g e = absurd (omega arith)
from_is (suc n) from a d q h g e =
    ⊎_elim
    (λ (f : product from d ≡ a). ap (λ r. product r d) (from_found n from a d f) ∙ f)
    (λ (f : product from d ≢ a).
    let other : from ≢ q = λ same. f (ap (λ r. product r d) same ∙ e) in
    let later : from + 1 ≤ q = omega arith in
    let sooner : q < from + 1 + n = omega arith in
    ap (λ r. product r d) (from_next n from a d f) ∙ from_is n (from + 1) a d q later sooner e)
    (cases_eq (product from d) a)

quotient_is : (a d : ℕ) → quotient a d ≡ quotient_from 256 0 a d
unfolding quotient
quotient_is a d = refl

pub quotient_lt : (a d : ℕ) → quotient a d < 256
quotient_lt a d = rw quotient_is (from_lt 256 0 a d (omega arith))

pub quotient_product : (a d : ℕ) → a < 256 → d < 256 → d ≢ 0 → product (quotient a d) d ≡ a
quotient_product a d ha hd z =
    let b = inverse d hd z in
    let q = product a b.0 in
    let hq : q < 256 = product_lt a b.0 ha in
    let e : product q d ≡ a =
    product_assoc a b.0 d ha b.1 hd ∙ ap (product a) (product_comm b.0 d b.1 hd ∙ b.2) ∙ product_one a ha in
    ap (λ r. product r d) (quotient_is a d) ∙ from_is 256 0 a d q (omega arith) (omega arith) e

-- there is no other such value
pub quotient_unique : (a d q : ℕ) → a < 256 → d < 256 → d ≢ 0 → q < 256 → product q d ≡ a → q ≡ quotient a d
quotient_unique a d q ha hd z hq e =
    let r = quotient a d in
    let hr : r < 256 = quotient_lt a d in
    let both : product d (bit_xor q r) ≡ 0 =
    product_add d q r hd hq hr
    ∙ ap₂ bit_xor (product_comm d q hd hq ∙ e) (product_comm d r hd hr ∙ quotient_product a d ha hd z)
    ∙ xor_self a in
    xor_equal q r (product_cancel d (bit_xor q r) hd (xor_lt 8 q r hq hr) z both)

pub quotient_zero : (d : ℕ) → d < 256 → d ≢ 0 → quotient 0 d ≡ 0
quotient_zero d hd z = sym (quotient_unique 0 d 0 (omega arith) hd z (omega arith) (product_zero_left d))

pub quotient_same : (d : ℕ) → d < 256 → d ≢ 0 → quotient d d ≡ 1
quotient_same d hd z = sym (quotient_unique d d 1 hd hd z (omega arith) (product_one_left d hd))

-- by the inverse
pub quotient_by_inverse : (a d b : ℕ) → a < 256 → d < 256 → d ≢ 0 → b < 256 → product d b ≡ 1 → product a b ≡ quotient a d
quotient_by_inverse a d b ha hd z hb e =
    quotient_unique a d (product a b) ha hd z (product_lt a b ha)
    (product_assoc a b d ha hb hd ∙ ap (product a) (product_comm b d hb hd ∙ e) ∙ product_one a ha)

-- ---- coefficients

pub weight_nil : (s x : ℕ) → weight [] s x ≡ 1
unfolding weight
weight_nil s x = refl

pub weight_skip : (m : ℕ) (ps : List ℕ) (s x : ℕ) → m ≡ s → weight (m ∷ ps) s x ≡ weight ps s x
unfolding weight
weight_skip m ps s x e = grind (arith, nat_tests)

pub weight_step : (m : ℕ) (ps : List ℕ) (s x : ℕ) → m ≢ s → weight (m ∷ ps) s x ≡ product (quotient (bit_xor x m) (bit_xor s m)) (weight ps s x)
unfolding weight
weight_step m ps s x e = grind (arith, nat_tests)

pub weight_lt : (ps : List ℕ) (s x : ℕ) → weight ps s x < 256
weight_lt [] s x = rw weight_nil (omega arith)
weight_lt (m ∷ ps) s x =
    ⊎_elim
    (λ (e : m ≡ s). rw (weight_skip m ps s x e) (weight_lt ps s x))
    (λ (e : m ≢ s). rw (weight_step m ps s x e) (product_lt _ (weight ps s x) (quotient_lt (bit_xor x m) (bit_xor s m))))
    (cases_eq m s)

pub weight_itself : (ps : List ℕ) (s : ℕ) → EachByte ps → s < 256 → weight ps s s ≡ 1
weight_itself [] s b h = weight_nil s s
weight_itself (m ∷ ps) s b h =
    ⊎_elim
    (λ (e : m ≡ s). weight_skip m ps s s e ∙ weight_itself ps s b.1 h)
    (λ (e : m ≢ s).
    let apart : bit_xor s m ≢ 0 = λ same. e (sym (xor_equal s m same)) in
    weight_step m ps s s e
    ∙ ap₂ product (quotient_same (bit_xor s m) (xor_lt 8 s m h b.0) apart) (weight_itself ps s b.1 h)
    ∙ product_one 1 (omega arith))
    (cases_eq m s)

-- t is one of the points
abbrev pub IsIn : ℕ → List ℕ → Type 0
IsIn t [] = ⊥
IsIn t (s ∷ ss) = (s ≡ t) ⊎ IsIn t ss

pub weight_other : (ps : List ℕ) (s t : ℕ) → EachByte ps → s < 256 → t ≢ s → IsIn t ps → weight ps s t ≡ 0
weight_other [] s t b h n i = absurd i
weight_other (m ∷ ps) s t b h n i =
    ⊎_elim
    (λ (e : m ≡ s).
    ⊎_elim
    (λ (g : m ≡ t). absurd (n (sym g ∙ e)))
    (λ (g : IsIn t ps). weight_skip m ps s t e ∙ weight_other ps s t b.1 h n g)
    i)
    (λ (e : m ≢ s).
    let apart : bit_xor s m ≢ 0 = λ same. e (sym (xor_equal s m same)) in
    let d = bit_xor s m in
    let hd : d < 256 = xor_lt 8 s m h b.0 in
    ⊎_elim
    (λ (g : m ≡ t).
    weight_step m ps s t e
    ∙ ap (λ x. product (quotient x d) (weight ps s t)) (ap (bit_xor t) g ∙ xor_self t)
    ∙ ap (λ x. product x (weight ps s t)) (quotient_zero d hd apart)
    ∙ product_zero_left (weight ps s t))
    (λ (g : IsIn t ps).
    weight_step m ps s t e
    ∙ ap (product (quotient (bit_xor t m) d)) (weight_other ps s t b.1 h n g)
    ∙ product_zero (quotient (bit_xor t m) d) (quotient_lt (bit_xor t m) d))
    i)
    (cases_eq m s)

pub quotient_is_the_one : QuotientIsTheOne
quotient_is_the_one a d ha hd z = (quotient_lt a d, quotient_product a d ha hd z, λ q hq e. quotient_unique a d q ha hd z hq e)
