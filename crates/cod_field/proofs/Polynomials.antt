-- The product is the remainder of the product of polynomials by the modulus.
use Rattle.std.proofs.Common.{◌≡◌, ℕ, zero, suc, ◌+◌, ◌-◌, ◌*◌, ◌/◌, ◌%◌, ◌^◌, ◌<◌, ◌≤◌, Bool, true, false, nat_eq, bit_xor, if◌then◌else◌, refl, sym, ap, ap₂, ◌∙◌, ⊎_elim, arith}
use Rattle.std.specs.Int.Bits.{xor_assoc, xor_zero_l, xor_self}
use Rattle.std.proofs.lemmas.Nat.{xor_comm, xor_block}
use Rattle.std.proofs.lemmas.Bool.{cases_lt}
use Rattle.std.proofs.lemmas.Bool.Decides.{nat_tests}
use Rattle.cod_field.specs.Field.{twice, terms}
use Rattle.cod_field.specs.Polynomials.{polynomial_product, multiple_of_modulus, ProductIsRemainder}
use Rattle.cod_field.proofs.Laws.{xor_swap, double_add, twice_lt, term, term_add, terms_suc, terms_zero, product_is, product_lt}

none : (a b : ℕ) → polynomial_product 0 a b ≡ 0
unfolding polynomial_product
none a b = refl

more : (n a b : ℕ) → polynomial_product (suc n) a b ≡ bit_xor (term (nat_eq (b % 2) 1) a) (polynomial_product n (2 * a) (b / 2))
unfolding polynomial_product
more n a b =
    elim (nat_eq (b % 2) 1) as (λ t. bit_xor (if t then a else 0) (polynomial_product n (2 * a) (b / 2)) ≡ bit_xor (term t a) (polynomial_product n (2 * a) (b / 2))) [ true ↦ refl | false ↦ refl ]

doubled_sum : (x y : ℕ) → 2 * bit_xor x y ≡ bit_xor (2 * x) (2 * y)
doubled_sum x y =
    let left : 2 * bit_xor x y ≡ bit_xor x y * 2 = omega arith in
    let ex : x * 2 ≡ 2 * x = omega arith in
    let ey : y * 2 ≡ 2 * y = omega arith in
    left ∙ double_add x y ∙ ap₂ bit_xor ex ey

of_sum : (n a c b : ℕ) → polynomial_product n (bit_xor a c) b ≡ bit_xor (polynomial_product n a b) (polynomial_product n c b)
of_sum zero a c b = none (bit_xor a c) b ∙ sym (ap₂ bit_xor (none a b) (none c b))
of_sum (suc n) a c b =
    let t = nat_eq (b % 2) 1 in
    more n (bit_xor a c) b
    ∙ ap₂ bit_xor (term_add t a c) (ap (λ x. polynomial_product n x (b / 2)) (doubled_sum a c) ∙ of_sum n (2 * a) (2 * c) (b / 2))
    ∙ xor_swap (term t a) (term t c) (polynomial_product n (2 * a) (b / 2)) (polynomial_product n (2 * c) (b / 2))
    ∙ sym (ap₂ bit_xor (more n a b) (more n c b))

term_double : (t : Bool) (a : ℕ) → term t (2 * a) ≡ 2 * term t a
term_double true a = refl
term_double false a = refl

of_double : (n a b : ℕ) → polynomial_product n (2 * a) b ≡ 2 * polynomial_product n a b
of_double zero a b = none (2 * a) b ∙ sym (ap (λ x. 2 * x) (none a b))
of_double (suc n) a b =
    let t = nat_eq (b % 2) 1 in
    more n (2 * a) b
    ∙ ap₂ bit_xor (term_double t a) (of_double n (2 * a) (b / 2))
    ∙ sym (doubled_sum (term t a) (polynomial_product n (2 * a) (b / 2)))
    ∙ ap (λ x. 2 * x) (sym (more n a b))

modulus_sum : (p q : ℕ) → multiple_of_modulus (bit_xor p q) ≡ bit_xor (multiple_of_modulus p) (multiple_of_modulus q)
unfolding multiple_of_modulus
modulus_sum p q = of_sum 9 p q 285

modulus_double : (q : ℕ) → multiple_of_modulus (2 * q) ≡ 2 * multiple_of_modulus q
unfolding multiple_of_modulus
modulus_double q = of_double 9 q 285

modulus_none : multiple_of_modulus 0 ≡ 0
modulus_none = modulus_sum 0 0 ∙ xor_self (multiple_of_modulus 0)

modulus_one : multiple_of_modulus 1 ≡ 285
unfolding multiple_of_modulus polynomial_product
modulus_one = refl

modulus_term : (t : Bool) (q : ℕ) → multiple_of_modulus (term t q) ≡ term t (multiple_of_modulus q)
modulus_term true q = refl
modulus_term false q = modulus_none

twice_low : (a : ℕ) → a < 128 → twice a ≡ 2 * a
unfolding twice
twice_low a h = grind (arith, nat_tests)

twice_high : (a : ℕ) → 128 ≤ a → twice a ≡ bit_xor (2 * a - 256) 29
unfolding twice
twice_high a h = grind (arith, nat_tests)

top_bit : (low : ℕ) → low < 256 → bit_xor 256 low ≡ 256 + low
top_bit low h =
    let e : bit_xor (1 * 2 ^ 8 + 0) (0 * 2 ^ 8 + low) ≡ bit_xor 1 0 * 2 ^ 8 + bit_xor 0 low = xor_block 8 1 0 0 low (omega arith) (omega arith) in
    let zero_low : 0 * 2 ^ 8 + low ≡ low = omega arith in
    sym (ap (bit_xor 256) zero_low) ∙ e ∙ ap (λ x. 256 + x) (xor_zero_l low)

-- twice a is 2 a but for a multiple of the modulus
double_reduced : (a : ℕ) → a < 256 → (q : ℕ) × (2 * a ≡ bit_xor (multiple_of_modulus q) (twice a))
double_reduced a h =
    ⊎_elim
    (λ (g : a < 128). (0, sym (ap₂ bit_xor modulus_none (twice_low a g) ∙ xor_zero_l (2 * a))))
    (λ (g : 128 ≤ a).
    let low = 2 * a - 256 in
    let whole : 256 + low ≡ 2 * a = omega arith in (
      1,
      sym (ap₂ bit_xor modulus_one (twice_high a g ∙ xor_comm low 29)
          ∙ sym (xor_assoc 285 29 low)
          ∙ top_bit low (omega arith)
          ∙ whole),
    ))
    (cases_lt a 128)

-- terms of numbers that differ by a multiple of the modulus
reduced_terms : (n wide a q b : ℕ) → a < 256 → wide ≡ bit_xor (multiple_of_modulus q) a
    → (r : ℕ) × (polynomial_product n wide b ≡ bit_xor (multiple_of_modulus r) (terms n a b))
reduced_terms zero wide a q b h e =
    (0, none wide b ∙ sym (ap₂ bit_xor modulus_none (terms_zero a b) ∙ xor_zero_l 0))
reduced_terms (suc n) wide a q b h e =
    let t = nat_eq (b % 2) 1 in
    let d = double_reduced a h in
    let next : 2 * wide ≡ bit_xor (multiple_of_modulus (bit_xor (2 * q) d.0)) (twice a) =
    ap (λ x. 2 * x) e
    ∙ doubled_sum (multiple_of_modulus q) a
    ∙ ap₂ bit_xor (sym (modulus_double q)) d.1
    ∙ sym (xor_assoc (multiple_of_modulus (2 * q)) (multiple_of_modulus d.0) (twice a))
    ∙ ap (λ x. bit_xor x (twice a)) (sym (modulus_sum (2 * q) d.0)) in
    let rest = reduced_terms n (2 * wide) (twice a) (bit_xor (2 * q) d.0) (b / 2) (twice_lt a h) next in (
      bit_xor (term t q) rest.0,
      more n wide b
          ∙ ap₂ bit_xor (ap (term t) e ∙ term_add t (multiple_of_modulus q) a) rest.1
          ∙ xor_swap (term t (multiple_of_modulus q)) (term t a) (multiple_of_modulus rest.0) (terms n (twice a) (b / 2))
          ∙ ap₂ bit_xor
          (ap (λ x. bit_xor x (multiple_of_modulus rest.0)) (sym (modulus_term t q)) ∙ sym (modulus_sum (term t q) rest.0))
          (sym (terms_suc n a b)),
    )

pub product_is_remainder : ProductIsRemainder
product_is_remainder a b ha hb =
    let start : a ≡ bit_xor (multiple_of_modulus 0) a = sym (ap (λ x. bit_xor x a) modulus_none ∙ xor_zero_l a) in
    let r = reduced_terms 8 a a 0 b ha start in
    (product_lt a b ha, (r.0, r.1 ∙ ap (bit_xor (multiple_of_modulus r.0)) (sym (product_is a b))))
