-- Sums and counts that fall.
use Rattle.std.proofs.Common.{◌≡◌, inl, inr, ℕ, zero, suc, ◌-◌, ◌<◌, ◌≤◌, min, Bool, true, false, refl, sym, ap, arith}
use Rattle.std.specs.Prelude.{◌&&◌, not}
use Rattle.std.proofs.lemmas.Bool.{cases_eq, false≢true}
use Rattle.cod_turns.specs.Progress.{total}
use Rattle.cod_advance.specs.Work.{count_of, one_if, pieces_in}

pub total_le : (f g : ℕ → ℕ) (n : ℕ) → ((i : ℕ) → i < n → g i ≤ f i) → total g n ≤ total f n
total_le f g zero h = omega arith
total_le f g (suc n) h = (let r = total_le f g n (λ i l. h i (omega (arith, l))) in let o = h n (omega arith) in omega (arith, r, o))

pub total_less : (f g : ℕ → ℕ) (s n : ℕ) → s < n → ((i : ℕ) → i < n → g i ≤ f i) → g s < f s → total g n < total f n
total_less f g s zero lt h less = absurd (omega (arith, lt))
total_less f g s (suc n) lt h less = elim (cases_eq n s) [
  | inl same ↦
      let r = total_le f g n (λ i l. h i (omega (arith, l))) in
      let a : g n ≡ g s = ap g same in
      let b : f n ≡ f s = ap f same in
      omega (arith, r, a, b, less)
  | inr diff ↦ (let r = total_less f g s n (omega (arith, lt, diff)) (λ i l. h i (omega (arith, l))) less in let o = h n (omega arith) in omega (arith, r, o))
]

pub one_le : (a b : Bool) → (b ≡ true → a ≡ true) → one_if b ≤ one_if a
one_le true true h = omega arith
one_le true false h = omega arith
one_le false true h = absurd (false≢true (h refl))
one_le false false h = omega arith

pub one_less : (a b : Bool) → a ≡ true → b ≡ false → one_if b < one_if a
one_less true true h k = cc
one_less true false h k = omega arith
one_less false b h k = cc

pub count_le : (p q : ℕ → Bool) (n : ℕ) → ((i : ℕ) → i < n → q i ≡ true → p i ≡ true) → count_of q n ≤ count_of p n
count_le p q n h = total_le (λ i. one_if (p i)) (λ i. one_if (q i)) n (λ i l. one_le (p i) (q i) (h i l))

pub count_less : (p q : ℕ → Bool) (s n : ℕ) → s < n → ((i : ℕ) → i < n → q i ≡ true → p i ≡ true) → p s ≡ true → q s ≡ false → count_of q n < count_of p n
count_less p q s n lt h was is = total_less (λ i. one_if (p i)) (λ i. one_if (q i)) s n lt (λ i l. one_le (p i) (q i) (h i l)) (one_less (p s) (q s) was is)

pub one_most : (a : Bool) → one_if a ≤ 1
one_most true = omega arith
one_most false = omega arith

pub count_most : (p : ℕ → Bool) (n : ℕ) → count_of p n ≤ n
count_most p zero = omega arith
count_most p (suc n) = (let r = count_most p n in let o = one_most (p n) in omega (arith, r, o))

-- ---- tests of two parts

pub and_first : (a b : Bool) → (a && b) ≡ true → a ≡ true
and_first true b h = refl
and_first false b h = h

pub and_second : (a b : Bool) → (a && b) ≡ true → b ≡ true
and_second true b h = h
and_second false b h = cc

pub and_both : (a b : Bool) → a ≡ true → b ≡ true → (a && b) ≡ true
and_both true b h k = k
and_both false b h k = h

pub and_none : (a b : Bool) → b ≡ false → (a && b) ≡ false
and_none true b h = h
and_none false b h = refl

pub not_true : (a : Bool) → not a ≡ true → a ≡ false
not_true true h = sym h
not_true false h = refl

pub not_false : (a : Bool) → a ≡ false → not a ≡ true
not_false true h = sym h
not_false false h = refl

-- ---- pieces

pub pieces_rise : (a b : ℕ) → a ≤ b → pieces_in a ≤ pieces_in b
pieces_rise a b le = omega (arith, le)

pub pieces_fall : (a : ℕ) → 0 < a → pieces_in (a - min 4096 a) < pieces_in a
pieces_fall a some = omega (arith, some)
