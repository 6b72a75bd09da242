-- The least item is one of them, none has a lower number, and the others are what is left.
use Rattle.std.proofs.Common.{◌≡◌, ℕ, zero, suc, ◌+◌, ◌<◌, ◌≤◌, List, [], ◌∷◌, length, refl, sym, ap, ◌∙◌, subst, arith, eqb, eq-eqb, ne_eqb, ltb, cond, Bool, true, false}
use Rattle.std.proofs.lemmas.Bool.Decides.{nat_tests}
use mathlib.Core.Logic.{dite}
use native.Mathlib.Decide.{ℕ_discrete, dec_lt}
use Rattle.cod_seats.specs.Totals.{times, total, range}
use Rattle.cod_seats.specs.Least.{itself, lowest, higher, least_of, all_but_least, AtLeast, IsLeast}

module _ {A : Type 0} (number : A → ℕ) where
  -- however the items are weighed
  cut : (f : A → ℕ) (x : A) (xs : List A) → total f (higher number x xs) + f (lowest number x xs) ≡ f x + total f xs
  cut f x [] = omega arith
  cut f x (y ∷ ys) = by_case (ltb (number y) (number x)) (cut f y ys) (cut f x ys)
    where
      by_case : (b : Bool) → total f (higher number y ys) + f (lowest number y ys) ≡ f y + total f ys → total f (higher number x ys) + f (lowest number x ys) ≡ f x + total f ys
          → total f (cond b (x ∷ higher number y ys) (y ∷ higher number x ys)) + f (cond b (lowest number y ys) (lowest number x ys)) ≡ f x + (f y + total f ys)
      by_case true more other = omega arith
      by_case false other more = omega arith

  pub total_cut : (f : A → ℕ) (xs : List A) → total f (all_but_least number xs) + total f (least_of number xs) ≡ total f xs
  total_cut f [] = refl
  total_cut f (x ∷ xs) = let c = cut f x xs in omega arith

  pub length_total : (xs : List A) → total (λ (x : A). 1) xs ≡ length xs
  length_total [] = refl
  length_total (x ∷ xs) = let more = length_total xs in omega arith

  pub length_cut : (xs : List A) → length (all_but_least number xs) + length (least_of number xs) ≡ length xs
  length_cut xs =
      let t = total_cut (λ (x : A). 1) xs in
      let a = length_total (all_but_least number xs) in
      let b = length_total (least_of number xs) in
      let c = length_total xs in
      omega arith

  pub length_least : (xs : List A) → length (least_of number xs) ≤ 1
  length_least [] = omega arith
  length_least (x ∷ xs) = omega arith

  pub one_least : (xs : List A) → 0 < length xs → length (least_of number xs) ≡ 1
  one_least [] some = absurd (omega arith)
  one_least (x ∷ xs) some = refl

  weaker : (n m : ℕ) (zs : List A) → n ≤ m → AtLeast number m zs → AtLeast number n zs
  weaker n m [] le a = tt
  weaker n m (z ∷ zs) le a = let here : m ≤ number z = a.0 in (omega arith, weaker n m zs le a.1)

  abbrev Low : A → A → List A → Type 0
  Low l x xs = (number l ≤ number x) × AtLeast number (number l) xs

  -- no item has a lower number
  below : (x : A) (xs : List A) → Low (lowest number x xs) x xs
  below x [] = (omega arith, tt)
  below x (y ∷ ys) = by_case (ltb (number y) (number x)) refl (below y ys) (below x ys)
    where
      by_case : (b : Bool) → ltb (number y) (number x) ≡ b → Low (lowest number y ys) y ys → Low (lowest number x ys) x ys → Low (cond b (lowest number y ys) (lowest number x ys)) x (y ∷ ys)
      by_case true e more other =
          let less : number y < number x = grind (arith, nat_tests) in
          let here : number (lowest number y ys) ≤ number y = more.0 in
          (omega arith, (here, more.1))
      by_case false e other more =
          let less : number x ≤ number y = grind (arith, nat_tests) in
          let here : number (lowest number x ys) ≤ number x = more.0 in
          (here, (omega arith, more.1))

  -- where the first item has the least number, it is the one
  pub lowest_first : (x : A) (xs : List A) → AtLeast number (number x) xs → (lowest number x xs ≡ x) × (higher number x xs ≡ xs)
  lowest_first x [] a = (refl, refl)
  lowest_first x (y ∷ ys) a =
      let here : number x ≤ number y = a.0 in
      let no : ltb (number y) (number x) ≡ false = grind (arith, nat_tests) in
      let more = lowest_first x ys a.1 in (
        ap (λ (b : Bool). cond b (lowest number y ys) (lowest number x ys)) no ∙ more.0,
        ap (λ (b : Bool). cond b (x ∷ higher number y ys) (y ∷ higher number x ys)) no ∙ ap (λ (zs : List A). y ∷ zs) more.1,
      )

-- the numbers of some items
pub count_in : (n : ℕ) (ns : List ℕ) → total (λ (m : ℕ). cond {A = ℕ} (eqb m n) 1 0) ns ≡ times n ns
count_in n [] = refl
count_in n (m ∷ ns) = let more = count_in n ns in omega arith

pub times_cut : (n : ℕ) (ns : List ℕ) → times n (all_but_least itself ns) + times n (least_of itself ns) ≡ times n ns
times_cut n ns =
    let t = total_cut itself (λ (m : ℕ). cond {A = ℕ} (eqb m n) 1 0) ns in
    let a = count_in n (all_but_least itself ns) in
    let b = count_in n (least_of itself ns) in
    let c = count_in n ns in
    omega arith

at_least : (n m : ℕ) (ns : List ℕ) → AtLeast itself n ns → 0 < times m ns → n ≤ m
at_least n m [] a some = absurd (omega arith)
at_least n m (k ∷ ns) a some = dite (ℕ_discrete k m)
    (λ is. let here : n ≤ k = a.0 in omega arith)
    (λ other. let off : cond {A = ℕ} (eqb k m) 1 0 ≡ 0 = ap (λ (b : Bool). cond {A = ℕ} b 1 0) (ne_eqb k m other) in at_least n m ns a.1 (omega arith))

pub is_least : (n : ℕ) (ns : List ℕ) → IsLeast (lowest itself n ns) (n ∷ ns)
is_least n ns =
    let low = below itself n ns in
    let all = times_cut (lowest itself n ns) (n ∷ ns) in
    let one : cond {A = ℕ} (eqb (lowest itself n ns) (lowest itself n ns)) 1 0 ≡ 1 = ap (λ (b : Bool). cond {A = ℕ} b 1 0) (eq-eqb (lowest itself n ns) (lowest itself n ns) refl) in
    (omega arith, λ m some. at_least (lowest itself n ns) m (n ∷ ns) low some)

-- numbers in order
pub range_at_least : (n a k : ℕ) → n ≤ a → AtLeast itself n (range a k)
unfolding range
range_at_least n a zero le = tt
range_at_least n a (suc k) le = (le, range_at_least n (suc a) k (omega arith))
