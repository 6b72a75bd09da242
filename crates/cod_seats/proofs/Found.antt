-- What stands in lists.
use Rattle.std.proofs.Common.{◌≡◌, ℕ, suc, List, [], ◌∷◌, ◌++◌, length, sym, refl}
use mathlib.Core.Option as maybe
use Rattle.atomic_table.proofs.Lists.{at_longer, at_last}
use Rattle.cod_seats.specs.Totals.{Has}

module _ {A : Type 0} where
  pub has_none : (x : A) → Has x [] → ⊥
  has_none x h = maybe.some-ne-none x (sym h.1)

  pub has_left : (x : A) (xs ys : List A) → Has x xs → Has x (xs ++ ys)
  has_left x xs ys h = (h.0, at_longer xs ys h.0 x h.1)

  pub has_right : (x : A) (xs ys : List A) → Has x ys → Has x (xs ++ ys)
  has_right x [] ys h = h
  has_right x (y ∷ xs) ys h = let r = has_right x xs ys h in (suc r.0, r.1)

  pub has_last : (x : A) (xs : List A) → Has x (xs ++ x ∷ [])
  has_last x xs = (length xs, at_last xs x (length xs) refl)
