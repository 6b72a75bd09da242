-- How many numbers of a range pass a test.
use Rattle.std.proofs.Common.{◌≡◌, ℕ, suc, ◌+◌, ◌-◌, ◌<◌, ◌≤◌, List, ◌∷◌, length, Bool, true, false, arith}
use Rattle.std.specs.Prelude.{if◌then◌else◌}
use Rattle.std.specs.List.{filter, range_with_len}

one_more : (b : Bool) (a : ℕ) (r : List ℕ) → length (if b then a ∷ r else r) ≡ (if b then 1 else 0) + length r
one_more true a r = omega arith
one_more false a r = omega arith

-- those from i on that pass are i, where it passes, and those behind it
counts_next : (p : ℕ → Bool) (i n : ℕ) → i < n
    → length (filter p (range_with_len i (n - i))) ≡ (if p i then 1 else 0) + length (filter p (range_with_len (i + 1) (n - (i + 1))))
counts_next p i n lt =
    let e : n - i ≡ suc (n - (i + 1)) = omega arith in
    rw e (one_more (p i) i (filter p (range_with_len (i + 1) (n - (i + 1)))))

one_at_most : (b : Bool) → (if b then 1 else 0) ≤ 1
one_at_most true = omega arith
one_at_most false = omega arith

-- one number more is counted
pub record IsCounted (count step i total rest : ℕ) : Type 0 where
  pub few : count + step ≤ i + 1
  pub all : count + step + rest ≡ total

pub counted : (p : ℕ → Bool) (count step i n total : ℕ) → i < n → step ≡ (if p i then 1 else 0) → count ≤ i
    → count + length (filter p (range_with_len i (n - i))) ≡ total
    → IsCounted count step i total (length (filter p (range_with_len (i + 1) (n - (i + 1)))))
counted p count step i n total lt is few all =
    let next = counts_next p i n lt in
    let most = one_at_most (p i) in
    record { few = omega (arith, is, few, most); all = omega (arith, is, all, next) }
