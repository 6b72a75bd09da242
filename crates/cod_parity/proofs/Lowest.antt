-- What the least numbers say, and what a raised cut adds.
use Rattle.std.proofs.Common.{◌≡◌, ◌⊎◌, ℕ, zero, suc, ◌-◌, ◌<◌, ◌≤◌, ◌^◌, List, [], ◌∷◌, length, get_or, set, min, cond, refl, sym, ap, ◌∙◌, subst, inl, inr, bit_xor, arith}
use Rattle.std.proofs.lemmas.Bool.{cases_lt, cases_eq, lt-ltb, le-ltb}
use Rattle.std.proofs.lemmas.List.{get_or-set_same, get_or-set_other, length-set, get_or-replicate}
use Rattle.std.proofs.lemmas.Nat.{xor_comm}
use Rattle.std.specs.Int.Bits.{xor_zero_l, xor_assoc}
use Rattle.std.specs.List.{AllByRecursion, filter}
use Rattle.cod_types.specs.Limits.{Shape}
use Rattle.cod_parity.specs.Log.{AreBelowEnd, Logged, IsIn, is_past, note, no_lowest, lowest_from, IsDue, IsIncluded, change, share}
use Rattle.cod_parity.specs.State.{Means, State}
use Rattle.cod_parity.proofs.Records.{share_past, share_in}

length-note : (low : List ℕ) (l : Logged) → length (note low l) ≡ length low
unfolding note
length-note low l = length-set low l.whole.block (min (get_or low l.whole.block 0) l.whole.number)

note_le : (low : List ℕ) (l : Logged) (j : ℕ) → l.whole.block < length low → get_or (note low l) j 0 ≤ get_or low j 0
unfolding note
note_le low l j within = elim (cases_eq j l.whole.block) [
  | inl same ↦ let at = get_or-set_same low l.whole.block (min (get_or low l.whole.block 0) l.whole.number) 0 within in rw same (omega (arith, at))
  | inr other ↦ let at = get_or-set_other low l.whole.block j (min (get_or low l.whole.block 0) l.whole.number) 0 other in omega (arith, at)
]

note_at : (low : List ℕ) (l : Logged) → l.whole.block < length low → get_or (note low l) l.whole.block 0 ≤ l.whole.number
unfolding note
note_at low l within = let at = get_or-set_same low l.whole.block (min (get_or low l.whole.block 0) l.whole.number) 0 within in omega (arith, at)

module _ (g : Shape) (few : g.k ≤ 16) (cuts : List ℕ) where
  lowest_le : (ls : List Logged) (low : List ℕ) (j : ℕ) → length low ≡ 16 → AllByRecursion (IsIn g) ls → get_or (lowest_from low ls) j 0 ≤ get_or low j 0
  lowest_le [] low j size each = omega arith
  lowest_le (l ∷ ls) low j size each =
      let one = note_le low l j (omega (arith, each.0.block, few, size)) in
      let rest = lowest_le ls (note low l) j (length-note low l ∙ size) each.1 in
      omega (arith, one, rest)

  -- a record at or below its cut makes the numbers due
  pub due_from : (ls : List Logged) (low : List ℕ) → length low ≡ 16 → AllByRecursion (IsIn g) ls → IsIncluded cuts ls → IsDue (lowest_from low ls) cuts
  due_from [] low size each none = absurd none
  due_from (l ∷ ls) low size each (inl here) =
      let one = note_at low l (omega (arith, each.0.block, few, size)) in
      let rest = lowest_le ls (note low l) l.whole.block (length-note low l ∙ size) each.1 in
      (l.whole.block, omega (arith, each.0.block, few), omega (arith, one, rest, here))
  due_from (l ∷ ls) low size each (inr there) = due_from ls (note low l) (length-note low l ∙ size) each.1 there

  -- each least number is the first one or a record's
  found : (ls : List Logged) (low : List ℕ) (j : ℕ) → length low ≡ 16 → AllByRecursion (IsIn g) ls → get_or cuts j 0 < get_or low j 0
      → get_or (lowest_from low ls) j 0 ≤ get_or cuts j 0 → IsIncluded cuts ls
  unfolding note
  found [] low j size each high least = absurd (omega arith)
  found (l ∷ ls) low j size each high least = elim (cases_lt (get_or cuts j 0) (get_or (note low l) j 0)) [
    | inl still ↦ inr (found ls (note low l) j (length-note low l ∙ size) each.1 still least)
    | inr now ↦ elim (cases_eq j l.whole.block) [
      | inl same ↦
          let at = get_or-set_same low l.whole.block (min (get_or low l.whole.block 0) l.whole.number) 0 (omega (arith, each.0.block, few, size)) in
          let high2 : get_or cuts l.whole.block 0 < get_or low l.whole.block 0 = subst (λ (k : ℕ). get_or cuts k 0 < get_or low k 0) same high in
          let now2 : get_or (note low l) l.whole.block 0 ≤ get_or cuts l.whole.block 0 = subst (λ (k : ℕ). get_or (note low l) k 0 ≤ get_or cuts k 0) same now in
          inl (omega (arith, at, high2, now2))
      | inr other ↦ let at = get_or-set_other low l.whole.block j (min (get_or low l.whole.block 0) l.whole.number) 0 other in absurd (omega (arith, at))
    ]
  ]

  -- the numbers are due exactly where some record is at or below its cut
  pub due_to : (ls : List Logged) → AllByRecursion (IsIn g) ls → AreBelowEnd cuts → IsDue (lowest_from no_lowest ls) cuts → IsIncluded cuts ls
  unfolding no_lowest
  due_to ls each small due =
      let top = get_or-replicate 16 due.0 (2 ^ 64 - 1) 0 due.1 in
      found ls no_lowest due.0 refl each (let s = small due.0 due.1 in omega (arith, s, top)) due.2

length-no_lowest : length no_lowest ≡ 16
unfolding no_lowest
length-no_lowest = refl

pub due_included : (g : Shape) (cuts : List ℕ) (ls : List Logged) → g.k ≤ 16 → AllByRecursion (IsIn g) ls → IsIncluded cuts ls → IsDue (lowest_from no_lowest ls) cuts
due_included g cuts ls few each i = due_from g few cuts ls no_lowest length-no_lowest each i

-- where no number is due, no record is included
pub not_due : (s : State) (cuts base : List ℕ) (ls : List Logged) → s.shape.k ≤ 16 → Means s base ls → (IsDue s.lowest cuts → ⊥) → IsIncluded cuts ls → ⊥
not_due s cuts base ls few means none i = none (subst (λ (low : List ℕ). IsDue low cuts) (sym means.noted) (due_included s.shape cuts ls few means.each i))

pub swap : (a b c : ℕ) → bit_xor a (bit_xor b c) ≡ bit_xor b (bit_xor a c)
swap a b c = sym (xor_assoc a b c) ∙ ap (λ (y : ℕ). bit_xor y c) (xor_comm a b) ∙ xor_assoc b a c

-- what a record past the cut adds later, beside what the others add now
pub raised : (cuts higher : List ℕ) (ls : List Logged) (x : ℕ) → ((l : Logged) → get_or cuts l.whole.block 0 ≤ get_or higher l.whole.block 0)
    → change higher ls x ≡ bit_xor (change cuts ls x) (change higher (filter (is_past cuts) ls) x)
raised cuts higher [] x up = refl
raised cuts higher (l ∷ ls) x up = elim (cases_lt (get_or cuts l.whole.block 0) l.whole.number) [
  | inl past ↦
      let kept : List Logged = filter (is_past cuts) ls in
      let later = raised cuts higher ls x up in
      let none = share_past cuts l x past in
      ap (bit_xor (share higher l x)) later ∙ swap (share higher l x) (change cuts ls x) (change higher kept x)
      ∙ ap (λ (y : ℕ). bit_xor y (bit_xor (share higher l x) (change higher kept x))) (sym (ap (λ (y : ℕ). bit_xor y (change cuts ls x)) none ∙ xor_zero_l (change cuts ls x)))
      ∙ ap (λ p. bit_xor (bit_xor (share cuts l x) (change cuts ls x)) (change higher (cond p (l ∷ kept) kept) x)) (sym (lt-ltb (get_or cuts l.whole.block 0) l.whole.number past))
  | inr within ↦
      let kept : List Logged = filter (is_past cuts) ls in
      let later = raised cuts higher ls x up in
      let same : share higher l x ≡ share cuts l x = share_in higher l x (let u = up l in omega (arith, u)) ∙ sym (share_in cuts l x within) in
      ap (λ (y : ℕ). bit_xor y (change higher ls x)) same ∙ ap (bit_xor (share cuts l x)) later
      ∙ sym (xor_assoc (share cuts l x) (change cuts ls x) (change higher kept x))
      ∙ ap (λ p. bit_xor (bit_xor (share cuts l x) (change cuts ls x)) (change higher (cond p (l ∷ kept) kept) x)) (sym (le-ltb (get_or cuts l.whole.block 0) l.whole.number within))
]

-- whether one of the first n numbers is due
due_below : (low cuts : List ℕ) (n : ℕ) → ((j : ℕ) × (j < n) × (get_or low j 0 ≤ get_or cuts j 0)) ⊎ ((j : ℕ) → j < n → get_or cuts j 0 < get_or low j 0)
due_below low cuts zero = inr (λ j few. absurd (omega arith))
due_below low cuts (suc n) = elim (due_below low cuts n) [
  | inl due ↦ inl (due.0, omega (arith, due.1), due.2)
  | inr none ↦ elim (cases_lt (get_or cuts n 0) (get_or low n 0)) [
    | inl past ↦ inr (λ j few. elim (cases_eq j n) [
      | inl same ↦ rw same past
      | inr other ↦ none j (omega (arith, few, other))
    ])
    | inr now ↦ inl (n, omega arith, now)
  ]
]

pub due_or_not : (low cuts : List ℕ) → IsDue low cuts ⊎ (IsDue low cuts → ⊥)
due_or_not low cuts = elim (due_below low cuts 16) [
  | inl due ↦ inl due
  | inr none ↦ inr (λ due. let past = none due.0 due.1 in omega (arith, due.2, past))
]

-- a number past its cut makes none due
pub still_none : (low cuts : List ℕ) (block number n : ℕ) → (number ≤ get_or cuts block 0 → ⊥) → block < length low → n ≡ min (get_or low block 0) number
    → IsDue (set low block n) cuts → IsDue low cuts
still_none low cuts block number n past within is due = elim (cases_eq due.0 block) [
  | inl same ↦
      let at = get_or-set_same low block n 0 within in
      let now : get_or (set low block n) block 0 ≤ get_or cuts block 0 = subst (λ (k : ℕ). get_or (set low block n) k 0 ≤ get_or cuts k 0) same due.2 in
      (block, omega (arith, same, due.1), omega (arith, at, now, is, past))
  | inr other ↦ let at = get_or-set_other low block due.0 n 0 other in (due.0, due.1, omega (arith, at, due.2))
]

-- and where there is no record, none is due
pub none_due : (cuts : List ℕ) → AreBelowEnd cuts → IsDue no_lowest cuts → ⊥
unfolding no_lowest
none_due cuts small due =
    let top = get_or-replicate 16 due.0 (2 ^ 64 - 1) 0 due.1 in
    let below = small due.0 due.1 in
    omega (arith, top, below, due.2)
