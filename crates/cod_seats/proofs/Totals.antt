-- Sums over the views, and how often a number stands in a list.
use Rattle.std.proofs.Common.{◌≡◌, ◌≢◌, ℕ, zero, suc, ◌+◌, ◌-◌, ◌<◌, ◌≤◌, List, [], ◌∷◌, ◌++◌, length, set, refl, sym, ap, ◌∙◌, arith, eqb, ltb, cond, Bool, true, eq-eqb}
use Rattle.std.proofs.lemmas.Bool.Decides.{nat_tests}
use mathlib.Core.Option.{some, some-ne-none, some-injective}
use lib.ListN.{get_elem?}
use Rattle.cod_seats.specs.Totals.{times, total, once_below, range}

module _ {A : Type 0} (f : A → ℕ) where
  pub total_set : (vs : List A) (j : ℕ) (v w : A) → get_elem? vs j ≡ some v → total f (set vs j w) + f v ≡ total f vs + f w
  total_set [] j v w e = absurd (some-ne-none v (sym e))
  total_set (x ∷ xs) zero v w e = let same : f x ≡ f v = ap f (some-injective x v e) in omega arith
  total_set (x ∷ xs) (suc j) v w e = let more = total_set xs j v w e in omega arith

  pub total_snoc : (vs : List A) (w : A) → total f (vs ++ w ∷ []) ≡ total f vs + f w
  total_snoc [] w = omega arith
  total_snoc (x ∷ xs) w = let more = total_snoc xs w in omega arith

  pub below_total : (vs : List A) (j : ℕ) (v : A) → get_elem? vs j ≡ some v → f v ≤ total f vs
  below_total [] j v e = absurd (some-ne-none v (sym e))
  below_total (x ∷ xs) zero v e = let same : f x ≡ f v = ap f (some-injective x v e) in omega arith
  below_total (x ∷ xs) (suc j) v e = let more = below_total xs j v e in omega arith

  pub two_below : (vs : List A) (i j : ℕ) (v w : A) → i ≢ j → get_elem? vs i ≡ some v → get_elem? vs j ≡ some w → f v + f w ≤ total f vs
  two_below [] i j v w apart e e' = absurd (some-ne-none v (sym e))
  two_below (x ∷ xs) zero zero v w apart e e' = absurd (apart refl)
  two_below (x ∷ xs) zero (suc j) v w apart e e' = let same : f x ≡ f v = ap f (some-injective x v e) in let more = below_total xs j w e' in omega arith
  two_below (x ∷ xs) (suc i) zero v w apart e e' = let same : f x ≡ f w = ap f (some-injective x w e') in let more = below_total xs i v e in omega arith
  two_below (x ∷ xs) (suc i) (suc j) v w apart e e' = let more = two_below xs i j v w (λ k. apart (ap suc k)) e e' in omega arith

  pub total_same : (vs : List A) (j : ℕ) (v w : A) → get_elem? vs j ≡ some v → f w ≡ f v → total f (set vs j w) ≡ total f vs
  total_same vs j v w e same = let s = total_set vs j v w e in omega arith

pub times-append : (x : ℕ) (xs ys : List ℕ) → times x (xs ++ ys) ≡ times x xs + times x ys
times-append x [] ys = omega arith
times-append x (y ∷ xs) ys = let more = times-append x xs ys in omega arith

pub times-here : (x : ℕ) (xs : List ℕ) → 0 < times x (x ∷ xs)
times-here x xs = let yes : cond {A = ℕ} (eqb x x) 1 0 ≡ 1 = ap (λ (b : Bool). cond {A = ℕ} b 1 0) (eq-eqb x x refl) in omega arith

pub once_most : (p n : ℕ) → once_below p n ≤ 1
once_most p n = grind (arith, nat_tests)

step_range : (p a k : ℕ) → cond (eqb a p) 1 0 + once_below p a ≡ once_below p (suc a)
step_range p a k = grind (arith, nat_tests)

pub times-range : (p a n : ℕ) → times p (range a n) + once_below p a ≡ once_below p (a + n)
unfolding range
times-range p a zero = let e : a + 0 ≡ a = omega arith in let f : once_below p (a + 0) ≡ once_below p a = ap (λ (k : ℕ). once_below p k) e in omega arith
times-range p a (suc n) =
    let more = times-range p (suc a) n in
    let one = step_range p a 0 in
    let e : suc a + n ≡ a + suc n = omega arith in
    let f : once_below p (suc a + n) ≡ once_below p (a + suc n) = ap (λ (k : ℕ). once_below p k) e in
    omega arith

pub length-range : (a n : ℕ) → length (range a n) ≡ n
unfolding range
length-range a zero = refl
length-range a (suc n) = ap suc (length-range (suc a) n)

pub nothing_below : (p : ℕ) → once_below p 0 ≡ 0
nothing_below p = grind (arith, nat_tests)

pub range_head : (a n : ℕ) → range a (suc n) ≡ a ∷ range (suc a) n
unfolding range
range_head a n = refl
