-- The first number that passes a test.
use Rattle.std.proofs.Common.{◌≡◌, ℕ, zero, suc, ◌+◌, ◌<◌, ◌≤◌, Bool, true, false, Some, None, refl, sym, ap, ◌∙◌, arith, inl, inr, find, ◌&&◌, ◌==◌, not, if◌then◌else◌, IsSome, length, List, Option}
use Rattle.std.proofs.lemmas.Bool.{cases_lt, cond-true, cond-false}
use Rattle.std.specs.List.{range_with_len}
use Rattle.std.proofs.lemmas.List.{get_or_past}
use Rattle.std.specs.Option.{option_and_then}
use Rattle.cod_claims.specs.declared.claim.Claim.{Claim}
use Rattle.cod_claims.specs.declared.claims.Held.{Held}
use Rattle.cod_claims.specs.Claimed.{FreeOfOthers, HasNone, is_of, claim_at, first_holder, holder, is_contested, is_others, is_wanted}

and_false : (b : Bool) → (b && false) ≡ false
and_false true = refl
and_false false = refl

-- those before it don't pass
pub found_first : (p : ℕ → Bool) (a n j : ℕ) → a ≤ j → j < a + n → ((k : ℕ) → a ≤ k → k < j → p k ≡ false) → p j ≡ true
    → find p (range_with_len a n) ≡ Some j
found_first p a zero j low high before here = absurd (omega arith)
found_first p a (suc n) j low high before here = elim (cases_lt a j) [
  | inl below ↦
      cond-false (p a) (Some a) (find p (range_with_len (a + 1) n)) (before a (omega arith) below)
      ∙ found_first p (a + 1) n j (omega arith) (omega arith) (λ k l h. before k (omega arith) h) here
  | inr from ↦
      let same : j ≡ a = omega arith in
      cond-true (p a) (Some a) (find p (range_with_len (a + 1) n)) (ap p (sym same) ∙ here) ∙ ap (λ (k : ℕ). Some k) (sym same)
]

-- none passes
pub found_none : (p : ℕ → Bool) (a n : ℕ) → ((k : ℕ) → a ≤ k → k < a + n → p k ≡ false) → find p (range_with_len a n) ≡ None
found_none p a zero none = refl
found_none p a (suc n) none =
    cond-false (p a) (Some a) (find p (range_with_len (a + 1) n)) (none a (omega arith) (omega arith))
    ∙ found_none p (a + 1) n (λ k l h. none k (omega arith) (omega arith))

-- the holder of the lowest wanted block that is another caller's, where no block before it is
pub first_holder_is : (wanted caller : ℕ) (cs : List (Option Claim)) (j : ℕ) (h : Held) → j < 16 → ((k : ℕ) → k < j → is_contested wanted caller cs k ≡ false)
    → is_wanted wanted j ≡ true → is_others caller (claim_at cs j) ≡ true → holder (claim_at cs j) ≡ Some h → Some h ≡ first_holder wanted caller cs
first_holder_is wanted caller cs j h below before here others held =
    let both : is_contested wanted caller cs j ≡ true = rw (here, others) refl in
    let found = found_first (is_contested wanted caller cs) 0 16 j (omega arith) (omega arith) (λ k l lt. before k lt) both in
    sym (ap (λ (f : Option ℕ). option_and_then (λ k. holder (claim_at cs k)) f) found ∙ held)

-- and where none is
pub first_holder_none : (wanted caller : ℕ) (cs : List (Option Claim)) → ((k : ℕ) → k < 16 → is_contested wanted caller cs k ≡ false) → None ≡ first_holder wanted caller cs
first_holder_none wanted caller cs none =
    sym (ap (λ (f : Option ℕ). option_and_then (λ k. holder (claim_at cs k)) f) (found_none (is_contested wanted caller cs) 0 16 (λ k l lt. none k (omega arith))))

-- a block that isn't wanted isn't contested
pub not_wanted : (wanted caller : ℕ) (cs : List (Option Claim)) (j : ℕ) → is_wanted wanted j ≡ false → is_contested wanted caller cs j ≡ false
not_wanted wanted caller cs j out = rw out refl

-- nor is one that isn't another's
pub not_others : (wanted caller : ℕ) (cs : List (Option Claim)) (j : ℕ) → is_others caller (claim_at cs j) ≡ false → is_contested wanted caller cs j ≡ false
not_others wanted caller cs j out = rw out (and_false (is_wanted wanted j))

not_first : (b : Bool) (x : ℕ) (rest : Option ℕ) → (if b then Some x else rest) ≡ None → (b ≡ false) × (rest ≡ None)
not_first true x rest none = cc
not_first false x rest none = (refl, none)

-- where none is found, none passes
pub none_found : (p : ℕ → Bool) (a n : ℕ) → find p (range_with_len a n) ≡ None → (j : ℕ) → a ≤ j → j < a + n → p j ≡ false
none_found p a zero none j low high = absurd (omega arith)
none_found p a (suc n) none j low high =
    let first = not_first (p a) a (find p (range_with_len (a + 1) n)) none in
    elim (cases_lt a j) [
      | inl below ↦ none_found p (a + 1) n first.1 j (omega arith) (omega arith)
      | inr from ↦ let same : j ≡ a = omega arith in ap p same ∙ first.0
    ]

second_false : (a b : Bool) → (a && b) ≡ false → a ≡ true → b ≡ false
second_false true b is on = is
second_false false b is on = cc

nobody : (b : Bool) → b ≡ false → not b ≡ false → ⊥
nobody true mine others = cc
nobody false mine others = cc

claim_of_none : (caller : ℕ) (c : Option Claim) → is_of caller c ≡ false → is_others caller c ≡ false → c ≡ None
claim_of_none caller None mine others = refl
claim_of_none caller (Some c) mine others = absurd (nobody (c.owner.0 == caller) mine others)

holder_some : (c : Option Claim) → holder c ≡ None → IsSome c → ⊥
holder_some None none some = cc
holder_some (Some c) none some = cc

passes_by : (p : ℕ → Bool) (b : Bool) (a j : ℕ) (rest : Option ℕ) → p a ≡ b → (if b then Some a else rest) ≡ Some j → (rest ≡ Some j → p j ≡ true) → p j ≡ true
passes_by p true a j rest is found later = let same : a ≡ j = cc in ap p (sym same) ∙ is
passes_by p false a j rest is found later = later found

pub found_passes : (p : ℕ → Bool) (a n j : ℕ) → find p (range_with_len a n) ≡ Some j → p j ≡ true
found_passes p a zero j is = cc
found_passes p a (suc n) j is = passes_by p (p a) a j (find p (range_with_len (a + 1) n)) refl is (found_passes p (a + 1) n j)

range_by : (b : Bool) (a n j : ℕ) (rest : Option ℕ) → (if b then Some a else rest) ≡ Some j → (rest ≡ Some j → (a + 1 ≤ j) × (j < a + 1 + n))
    → (a ≤ j) × (j < a + suc n)
range_by true a n j rest found later = (let same : a ≡ j = cc in (omega (arith, same), omega (arith, same)))
range_by false a n j rest found later = (let r = later found in (omega (arith, r.0), omega (arith, r.1)))

-- what is found is in the range
pub found_range : (p : ℕ → Bool) (a n j : ℕ) → find p (range_with_len a n) ≡ Some j → (a ≤ j) × (j < a + n)
found_range p a zero j is = cc
found_range p a (suc n) j is = range_by (p a) a n j (find p (range_with_len (a + 1) n)) is (found_range p (a + 1) n j)

others_some : (caller : ℕ) (c : Option Claim) → is_others caller c ≡ true → IsSome c
others_some caller None is = cc
others_some caller (Some c) is = refl

pub second_true : (a b : Bool) → (a && b) ≡ true → b ≡ true
second_true true b is = is
second_true false b is = cc

holder_found : (cs : List (Option Claim)) (f : Option ℕ) → option_and_then (λ j. holder (claim_at cs j)) f ≡ None → ((j : ℕ) → f ≡ Some j → IsSome (claim_at cs j)) → f ≡ None
holder_found cs None none some = refl
holder_found cs (Some j) none some = absurd (holder_some (claim_at cs j) none (some j refl))

not_mine : (caller : ℕ) (cs : List (Option Claim)) (j : ℕ) → HasNone caller cs → is_of caller (claim_at cs j) ≡ false
not_mine caller cs j none = elim (cases_lt j (length cs)) [
  | inl below ↦ none j None below
  | inr past ↦ ap (is_of caller) (get_or_past cs j None past)
]

pub free_of_others : FreeOfOthers
free_of_others cs caller wanted j none mine below here =
    let test : ℕ → Bool = is_contested wanted caller cs in
    let out : find test (range_with_len 0 16) ≡ None = holder_found cs (find test (range_with_len 0 16)) none
    (λ k found. others_some caller (claim_at cs k) (second_true (is_wanted wanted k) (is_others caller (claim_at cs k)) (found_passes test 0 16 k found))) in
    claim_of_none caller (claim_at cs j) (not_mine caller cs j mine)
    (second_false (is_wanted wanted j) (is_others caller (claim_at cs j)) (none_found test 0 16 out j (omega arith) (omega arith)) here)
