-- The least of some items, each with its number, and all the others.
use Rattle.std.specs.Prelude.{◌<◌, ◌≤◌, ℕ, ltb, List, [], ◌∷◌, cond}
use Rattle.cod_seats.specs.Totals.{times}

-- a number is its own
abbrev pub itself : ℕ → ℕ
itself n = n

module _ {A : Type 0} (number : A → ℕ) where
  -- the item of the least number, of x and these
  abbrev pub lowest : A → List A → A
  lowest x [] = x
  lowest x (y ∷ ys) = cond (ltb (number y) (number x)) (lowest y ys) (lowest x ys)

  -- x and these, without that item
  abbrev pub higher : A → List A → List A
  higher x [] = []
  higher x (y ∷ ys) = cond (ltb (number y) (number x)) (x ∷ higher y ys) (y ∷ higher x ys)

  -- the item of the least number alone
  abbrev pub least_of : List A → List A
  least_of [] = []
  least_of (x ∷ xs) = lowest x xs ∷ []

  -- all but that item
  abbrev pub all_but_least : List A → List A
  all_but_least [] = []
  all_but_least (x ∷ xs) = higher x xs

  -- each of these has at least this number
  abbrev pub AtLeast : ℕ → List A → Type 0
  AtLeast n [] = Unit {0}
  AtLeast n (x ∷ xs) = (n ≤ number x) × AtLeast n xs

-- this is the least of these numbers
abbrev pub IsLeast : ℕ → List ℕ → Type 0
IsLeast n ns = (0 < times n ns) × ((m : ℕ) → 0 < times m ns → n ≤ m)
