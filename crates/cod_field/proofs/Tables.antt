-- What the tables hold.
use Rattle.std.proofs.Common.{◌≡◌, ◌≢◌, ℕ, zero, suc, ◌+◌, ◌-◌, ◌*◌, ◌/◌, ◌%◌, ◌<◌, Bool, true, ltb, refl, sym, ap, ap₂, ◌∙◌, arith, map, List, [], ◌∷◌, get_or, inl, inr, ⊎_elim}
use Rattle.std.proofs.Common.{ltb-true}
use Rattle.std.proofs.lemmas.List.FromFn.{get_or-map-range_with_len, get_or-range_with_len}
use Rattle.std.specs.List.{range_with_len}
use Rattle.std.proofs.lemmas.Bool.{cases_eq}
use Rattle.cod_field.specs.Field.{twice, product, power_of_two}
use Rattle.cod_field.specs.Laws.{IsField}
use Rattle.cod_field.specs.declared.TheConstants.{EXP, LOG}
use Rattle.cod_field.proofs.Laws.{product_comm, product_one_left, product_two, product_assoc, product_lt, product_add, product_one, product_zero, product_zero_left}

-- a, twice a, and so on
doublings : (count a : ℕ) → List ℕ
doublings zero a = []
doublings (suc count) a = a ∷ doublings count (twice a)

EXP_is : EXP ≡ doublings 510 1
unfolding doublings twice
EXP_is = refl

LOG_inverts : map (λ a. get_or EXP (get_or LOG a 0) 0) (range_with_len 1 255) ≡ range_with_len 1 255
LOG_inverts = refl

LOG_fits : map (λ a. ltb (get_or LOG a 0) 255) (range_with_len 0 256) ≡ map (λ a. true) (range_with_len 0 256)
LOG_fits = refl

pub power_zero : power_of_two 0 ≡ 1
unfolding power_of_two
power_zero = refl

pub power_suc : (e : ℕ) → power_of_two (suc e) ≡ product (power_of_two e) 2
unfolding power_of_two
power_suc e = refl

pub power_lt : (e : ℕ) → power_of_two e < 256
power_lt zero = rw power_zero (omega arith)
power_lt (suc e) = rw power_suc (product_lt (power_of_two e) 2 (power_lt e))

power_twice : (e : ℕ) → power_of_two (suc e) ≡ twice (power_of_two e)
power_twice e = power_suc e ∙ product_two (power_of_two e) (power_lt e)

doubled_at : (n e i : ℕ) → i < n → get_or (doublings n (power_of_two e)) i 0 ≡ power_of_two (e + i)
unfolding doublings
doubled_at zero e i h = omega arith
doubled_at (suc n) e zero h = ap power_of_two (omega arith)
doubled_at (suc n) e (suc i) h =
    let lt : i < n = omega arith in
    let at : suc e + i ≡ e + suc i = omega arith in
    ap (λ x. get_or (doublings n x) i 0) (sym (power_twice e)) ∙ doubled_at n (suc e) i lt ∙ ap power_of_two at

pub EXP_at : (i : ℕ) → i < 510 → get_or EXP i 0 ≡ power_of_two i
EXP_at i h =
    let at : 0 + i ≡ i = omega arith in
    ap (λ t. get_or t i 0) EXP_is
    ∙ ap (λ x. get_or (doublings 510 x) i 0) (sym power_zero)
    ∙ doubled_at 510 0 i h
    ∙ ap power_of_two at

pub LOG_lt : (a : ℕ) → a < 256 → get_or LOG a 0 < 255
LOG_lt a h =
    let e : ltb (get_or LOG a 0) 255 ≡ true =
    sym (get_or-map-range_with_len (λ x. ltb (get_or LOG x 0) 255) 0 256 a a true h (omega arith))
    ∙ ap (λ (t : List Bool). get_or t a true) LOG_fits
    ∙ get_or-map-range_with_len (λ x. true) 0 256 a a true h (omega arith) in
    ltb-true _ _ e

pub LOG_power : (a : ℕ) → a ≢ 0 → a < 256 → power_of_two (get_or LOG a 0) ≡ a
LOG_power a z h =
    let i = a - 1 in
    let lt : i < 255 = omega arith in
    let at : 1 + i ≡ a = omega arith in
    let near : get_or LOG a 0 < 510 = omega (arith, LOG_lt a h) in
    sym (EXP_at (get_or LOG a 0) near)
    ∙ sym (get_or-map-range_with_len (λ x. get_or EXP (get_or LOG x 0) 0) 1 255 i a 0 lt at)
    ∙ ap (λ t. get_or t i 0) LOG_inverts
    ∙ get_or-range_with_len 1 255 i 0 lt
    ∙ at

pub power_add : (m n : ℕ) → product (power_of_two m) (power_of_two n) ≡ power_of_two (m + n)
power_add m zero =
    let at : m ≡ m + 0 = omega arith in
    ap (product (power_of_two m)) power_zero ∙ product_one (power_of_two m) (power_lt m) ∙ ap power_of_two at
power_add m (suc n) =
    let at : suc (m + n) ≡ m + suc n = omega arith in
    ap (product (power_of_two m)) (power_suc n)
    ∙ sym (product_assoc (power_of_two m) (power_of_two n) 2 (power_lt m) (power_lt n) (omega arith))
    ∙ ap (λ x. product x 2) (power_add m n)
    ∙ sym (power_suc (m + n))
    ∙ ap power_of_two at

power_255 : power_of_two 255 ≡ 1
power_255 = sym (EXP_at 255 (omega arith))

power_round : (q r : ℕ) → power_of_two (q * 255 + r) ≡ power_of_two r
power_round zero r = let at : 0 * 255 + r ≡ r = omega arith in ap power_of_two at
power_round (suc q) r =
    let at : suc q * 255 + r ≡ (q * 255 + r) + 255 = omega arith in
    ap power_of_two at
    ∙ sym (power_add (q * 255 + r) 255)
    ∙ ap (product (power_of_two (q * 255 + r))) power_255
    ∙ product_one _ (power_lt (q * 255 + r))
    ∙ power_round q r

pub power_mod : (e : ℕ) → power_of_two (e % 255) ≡ power_of_two e
power_mod e =
    let at : e / 255 * 255 + e % 255 ≡ e = omega arith in
    sym (power_round (e / 255) (e % 255)) ∙ ap power_of_two at

pub mul_zero : (a b : ℕ) → a < 256 → a ≡ 0 → 0 ≡ product a b
mul_zero a b h e = rw e (sym (product_zero_left b))

pub mul_zero_right : (a b : ℕ) → a < 256 → b ≡ 0 → 0 ≡ product a b
mul_zero_right a b h e = rw e (sym (product_zero a h))

pub mul_tables : (a b : ℕ) → a < 256 → b < 256 → a ≢ 0 → b ≢ 0 → get_or EXP (get_or LOG a 0 + get_or LOG b 0) 0 ≡ product a b
mul_tables a b ha hb za zb =
    let near : get_or LOG a 0 + get_or LOG b 0 < 510 = omega (arith, LOG_lt a ha, LOG_lt b hb) in
    EXP_at (get_or LOG a 0 + get_or LOG b 0) near
    ∙ sym (power_add (get_or LOG a 0) (get_or LOG b 0))
    ∙ ap₂ product (LOG_power a za ha) (LOG_power b zb hb)

pub inv_tables : (a : ℕ) → a < 256 → a ≢ 0 → product a (get_or EXP (255 - get_or LOG a 0) 0) ≡ 1
inv_tables a h z =
    let near : 255 - get_or LOG a 0 < 510 = omega arith in
    let at : get_or LOG a 0 + (255 - get_or LOG a 0) ≡ 255 = omega (arith, LOG_lt a h) in
    ap₂ product (sym (LOG_power a z h)) (EXP_at (255 - get_or LOG a 0) near)
    ∙ power_add (get_or LOG a 0) (255 - get_or LOG a 0)
    ∙ ap power_of_two at
    ∙ power_255

-- each byte but 0 has an inverse
pub inverse : (a : ℕ) → a < 256 → a ≢ 0 → (b : ℕ) × (b < 256) × (product a b ≡ 1)
inverse a h z =
    let near : 255 - get_or LOG a 0 < 510 = omega arith in
    let small : get_or EXP (255 - get_or LOG a 0) 0 < 256 = rw (EXP_at (255 - get_or LOG a 0) near) (power_lt (255 - get_or LOG a 0)) in
    (get_or EXP (255 - get_or LOG a 0) 0, small, inv_tables a h z)

pub product_cancel : (a b : ℕ) → a < 256 → b < 256 → a ≢ 0 → product a b ≡ 0 → b ≡ 0
product_cancel a b ha hb z e =
    let i = inverse a ha z in
    sym (product_one_left b hb)
    ∙ ap (λ x. product x b) (sym i.2 ∙ product_comm a i.0 ha i.1)
    ∙ product_assoc i.0 a b i.1 ha hb
    ∙ ap (product i.0) e
    ∙ product_zero i.0 i.1

pub is_field : IsField
is_field = record {
  closed = λ a b ha hb. product_lt a b ha;
  commutative = product_comm;
  associative = product_assoc;
  distributive = product_add;
  one = product_one;
  inverses = inverse;
  no_zero_divisors = λ a b ha hb e. ⊎_elim (λ z. inl z) (λ n. inr (product_cancel a b ha hb n e)) (cases_eq a 0);
}
