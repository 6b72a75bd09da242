-- Sums over the views of seats, how often a number stands in a list, and what stands in it.
use Rattle.std.specs.Prelude.{◌≡◌, ℕ, zero, suc, ◌+◌, eqb, ltb, List, [], ◌∷◌, cond}
use mathlib.Core.Option as maybe
use lib.ListN.{get_elem?}

-- how often x stands in the list
abbrev pub times : ℕ → List ℕ → ℕ
times x [] = 0
times x (y ∷ ys) = cond (eqb y x) 1 0 + times x ys

-- f of each, added up
abbrev pub total : {A : Type 0} → (A → ℕ) → List A → ℕ
total f [] = 0
total f (v ∷ vs) = f v + total f vs

-- 1 where x is below n
abbrev pub once_below : ℕ → ℕ → ℕ
once_below x n = cond (ltb x n) 1 0

-- n numbers, from a on
unfoldable pub range : ℕ → ℕ → List ℕ
range a zero = []
range a (suc n) = a ∷ range (suc a) n

-- the item stands in the list
abbrev pub Has : {A : Type 0} → A → List A → Type 0
Has x xs = (i : ℕ) × (get_elem? xs i ≡ maybe.some x)
