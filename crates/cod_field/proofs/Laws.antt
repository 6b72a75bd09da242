-- The laws of the field.
use Rattle.std.proofs.Common.{◌≡◌, ℕ, zero, suc, ◌+◌, ◌-◌, ◌*◌, ◌/◌, ◌%◌, ◌^◌, ◌<◌, ◌≤◌, Bool, true, false, nat_eq, bit_xor, if◌then◌else◌, refl, sym, ap, ap₂, ◌∙◌, arith, map, get_or}
use Rattle.std.specs.Int.Bits.{xor_assoc, xor_zero_r, xor_self}
use Rattle.std.proofs.lemmas.Nat.{xor_comm, xor_lt, xor_shr, xor_mod, xor_block}
use Rattle.std.proofs.lemmas.List.FromFn.{get_or-map-range_with_len, get_or-range_with_len}
use Rattle.std.specs.List.{range_with_len}
use Rattle.std.proofs.lemmas.Bool.Decides.{nat_tests}
use Rattle.cod_field.specs.Field.{twice, terms, product}

-- (a + b) + (c + d) = (a + c) + (b + d)
pub xor_swap : (a b c d : ℕ) → bit_xor (bit_xor a b) (bit_xor c d) ≡ bit_xor (bit_xor a c) (bit_xor b d)
xor_swap a b c d =
    xor_assoc a b (bit_xor c d)
    ∙ ap (bit_xor a) (sym (xor_assoc b c d) ∙ ap (λ x. bit_xor x d) (xor_comm b c) ∙ xor_assoc c b d)
    ∙ sym (xor_assoc a c (bit_xor b d))

-- the part of a doubling that comes from the top bit t
abbrev reduced : ℕ → ℕ
reduced zero = 0
reduced (suc t) = 29

reduced_add : (s t : ℕ) → s < 2 → t < 2 → reduced (bit_xor s t) ≡ bit_xor (reduced s) (reduced t)
reduced_add zero t _ _ = refl
reduced_add (suc zero) zero _ _ = refl
reduced_add (suc zero) (suc zero) _ _ = refl
reduced_add (suc zero) (suc (suc t)) g h = omega arith
reduced_add (suc (suc s)) t g h = omega arith

split_low : (a : ℕ) → a < 128 → 2 * a ≡ bit_xor (a % 2 ^ 7 * 2) (reduced (a / 2 ^ 7))
split_low a h =
    let low : a % 2 ^ 7 ≡ a = omega arith in
    let top : a / 2 ^ 7 ≡ 0 = omega arith in
    rw (low, top) (sym (xor_zero_r (a * 2) ∙ omega arith))

split_high : (a : ℕ) → a < 256 → 128 ≤ a → bit_xor (2 * a - 256) 29 ≡ bit_xor (a % 2 ^ 7 * 2) (reduced (a / 2 ^ 7))
split_high a h g =
    let low : a % 2 ^ 7 * 2 ≡ 2 * a - 256 = omega arith in
    let top : a / 2 ^ 7 ≡ 1 = omega arith in
    rw (low, top) refl

pub twice_split : (a : ℕ) → a < 256 → twice a ≡ bit_xor (a % 2 ^ 7 * 2) (reduced (a / 2 ^ 7))
unfolding twice
twice_split a h = grind (arith, nat_tests, split_low a, split_high a h)

pub double_add : (x y : ℕ) → bit_xor x y * 2 ≡ bit_xor (x * 2) (y * 2)
double_add x y =
    let e : bit_xor (x * 2 ^ 1 + 0) (y * 2 ^ 1 + 0) ≡ bit_xor x y * 2 ^ 1 + 0 = xor_block 1 x y 0 0 (omega arith) (omega arith) in
    let ex : x * 2 ≡ x * 2 ^ 1 + 0 = omega arith in
    let ey : y * 2 ≡ y * 2 ^ 1 + 0 = omega arith in
    let er : bit_xor x y * 2 ≡ bit_xor x y * 2 ^ 1 + 0 = omega arith in
    er ∙ sym e ∙ sym (ap₂ bit_xor ex ey)

pub twice_add : (a b : ℕ) → a < 256 → b < 256 → twice (bit_xor a b) ≡ bit_xor (twice a) (twice b)
twice_add a b ha hb =
    twice_split (bit_xor a b) (xor_lt 8 a b ha hb)
    ∙ ap₂ bit_xor
    (ap (λ x. x * 2) (xor_mod a b 7) ∙ double_add (a % 2 ^ 7) (b % 2 ^ 7))
    (ap reduced (xor_shr a b 7) ∙ reduced_add (a / 2 ^ 7) (b / 2 ^ 7) (omega arith) (omega arith))
    ∙ xor_swap (a % 2 ^ 7 * 2) (b % 2 ^ 7 * 2) (reduced (a / 2 ^ 7)) (reduced (b / 2 ^ 7))
    ∙ sym (ap₂ bit_xor (twice_split a ha) (twice_split b hb))

pub twice_lt : (a : ℕ) → a < 256 → twice a < 256
unfolding twice
twice_lt a h = grind (arith, nat_tests, xor_lt 8 (2 * a - 256) 29)

twice_zero : twice 0 ≡ 0
unfolding twice
twice_zero = refl

abbrev pub term : Bool → ℕ → ℕ
term true a = a
term false a = 0

term_lt : (t : Bool) (a : ℕ) → a < 256 → term t a < 256
term_lt true a h = h
term_lt false a h = omega arith

pub term_add : (t : Bool) (a b : ℕ) → term t (bit_xor a b) ≡ bit_xor (term t a) (term t b)
term_add true a b = refl
term_add false a b = refl

term_twice : (t : Bool) (a : ℕ) → term t (twice a) ≡ twice (term t a)
term_twice true a = refl
term_twice false a = sym twice_zero

pub terms_suc : (n a b : ℕ) → terms (suc n) a b ≡ bit_xor (term (nat_eq (b % 2) 1) a) (terms n (twice a) (b / 2))
unfolding terms
terms_suc n a b = elim (nat_eq (b % 2) 1) as (λ t. bit_xor (if t then a else 0) (terms n (twice a) (b / 2)) ≡ bit_xor (term t a) (terms n (twice a) (b / 2))) [ true ↦ refl | false ↦ refl ]

pub terms_zero : (a b : ℕ) → terms 0 a b ≡ 0
unfolding terms
terms_zero a b = refl

terms_lt : (n a b : ℕ) → a < 256 → terms n a b < 256
terms_lt zero a b h = rw terms_zero (omega arith)
terms_lt (suc n) a b h =
    rw terms_suc (xor_lt 8 _ _ (term_lt (nat_eq (b % 2) 1) a h) (terms_lt n (twice a) (b / 2) (twice_lt a h)))

terms_add : (n a a' b : ℕ) → a < 256 → a' < 256 → terms n (bit_xor a a') b ≡ bit_xor (terms n a b) (terms n a' b)
terms_add zero a a' b h h' = rw (terms_zero, terms_zero, terms_zero) refl
terms_add (suc n) a a' b h h' =
    let t = nat_eq (b % 2) 1 in
    terms_suc n (bit_xor a a') b
    ∙ ap₂ bit_xor (term_add t a a') (ap (λ x. terms n x (b / 2)) (twice_add a a' h h') ∙ terms_add n (twice a) (twice a') (b / 2) (twice_lt a h) (twice_lt a' h'))
    ∙ xor_swap (term t a) (term t a') (terms n (twice a) (b / 2)) (terms n (twice a') (b / 2))
    ∙ sym (ap₂ bit_xor (terms_suc n a b) (terms_suc n a' b))

terms_twice : (n a b : ℕ) → a < 256 → terms n (twice a) b ≡ twice (terms n a b)
terms_twice zero a b h = rw (terms_zero, terms_zero) (sym twice_zero)
terms_twice (suc n) a b h =
    let t = nat_eq (b % 2) 1 in
    terms_suc n (twice a) b
    ∙ ap₂ bit_xor (term_twice t a) (terms_twice n (twice a) (b / 2) (twice_lt a h))
    ∙ sym (twice_add (term t a) (terms n (twice a) (b / 2)) (term_lt t a h) (terms_lt n (twice a) (b / 2) (twice_lt a h)))
    ∙ sym (ap twice (terms_suc n a b))

pub product_is : (a b : ℕ) → product a b ≡ terms 8 a b
unfolding product
product_is a b = refl

pub product_lt : (a b : ℕ) → a < 256 → product a b < 256
product_lt a b h = rw product_is (terms_lt 8 a b h)

pub product_add_left : (a a' b : ℕ) → a < 256 → a' < 256 → product (bit_xor a a') b ≡ bit_xor (product a b) (product a' b)
product_add_left a a' b h h' = rw (product_is, product_is, product_is) (terms_add 8 a a' b h h')

pub product_twice_left : (a b : ℕ) → a < 256 → product (twice a) b ≡ twice (product a b)
product_twice_left a b h = rw (product_is, product_is) (terms_twice 8 a b h)

pub product_zero_left : (b : ℕ) → product 0 b ≡ 0
product_zero_left b =
    let e = product_add_left 0 0 b (omega arith) (omega arith) in
    e ∙ xor_self (product 0 b)

term_product : (t : Bool) (c a : ℕ) → product (term t c) a ≡ term t (product c a)
term_product true c a = refl
term_product false c a = product_zero_left a

product_terms : (n c b a : ℕ) → c < 256 → product (terms n c b) a ≡ terms n (product c a) b
product_terms zero c b a h = rw (terms_zero, terms_zero) (product_zero_left a)
product_terms (suc n) c b a h =
    let t = nat_eq (b % 2) 1 in
    ap (λ x. product x a) (terms_suc n c b)
    ∙ product_add_left (term t c) (terms n (twice c) (b / 2)) a (term_lt t c h) (terms_lt n (twice c) (b / 2) (twice_lt c h))
    ∙ ap₂ bit_xor (term_product t c a) (product_terms n (twice c) (b / 2) a (twice_lt c h) ∙ ap (λ x. terms n x (b / 2)) (product_twice_left c a h))
    ∙ sym (terms_suc n (product c a) b)

product_right_comm : (c b a : ℕ) → c < 256 → product (product c b) a ≡ product (product c a) b
product_right_comm c b a h = rw (product_is c b, product_is (product c a) b) (product_terms 8 c b a h)

one_each : map (product 1) (range_with_len 0 256) ≡ range_with_len 0 256
unfolding product terms twice
one_each = refl

pub product_one_left : (b : ℕ) → b < 256 → product 1 b ≡ b
product_one_left b h =
    sym (get_or-map-range_with_len (product 1) 0 256 b b 0 h (omega arith))
    ∙ ap (λ xs. get_or xs b 0) one_each
    ∙ get_or-range_with_len 0 256 b 0 h ∙ omega arith

pub product_comm : (a b : ℕ) → a < 256 → b < 256 → product a b ≡ product b a
product_comm a b ha hb =
    ap (λ x. product x b) (sym (product_one_left a ha))
    ∙ product_right_comm 1 a b (omega arith)
    ∙ ap (λ x. product x a) (product_one_left b hb)

pub product_assoc : (a b c : ℕ) → a < 256 → b < 256 → c < 256 → product (product a b) c ≡ product a (product b c)
product_assoc a b c ha hb hc =
    ap (λ x. product x c) (product_comm a b ha hb)
    ∙ product_right_comm b a c hb
    ∙ product_comm (product b c) a (product_lt b c hb) ha

pub product_add : (a b b' : ℕ) → a < 256 → b < 256 → b' < 256 → product a (bit_xor b b') ≡ bit_xor (product a b) (product a b')
product_add a b b' h hb hb' =
    product_comm a (bit_xor b b') h (xor_lt 8 b b' hb hb')
    ∙ product_add_left b b' a hb hb'
    ∙ ap₂ bit_xor (product_comm b a hb h) (product_comm b' a hb' h)

pub product_zero : (a : ℕ) → a < 256 → product a 0 ≡ 0
product_zero a h = product_comm a 0 h (omega arith) ∙ product_zero_left a

pub product_one : (a : ℕ) → a < 256 → product a 1 ≡ a
product_one a h = product_comm a 1 h (omega arith) ∙ product_one_left a h

two_is : 2 ≡ twice 1
unfolding twice
two_is = refl

pub product_two : (a : ℕ) → a < 256 → product a 2 ≡ twice a
product_two a h =
    product_comm a 2 h (omega arith)
    ∙ ap (λ x. product x a) two_is
    ∙ product_twice_left 1 a (omega arith)
    ∙ ap twice (product_one_left a h)
