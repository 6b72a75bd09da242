-- A seat of a turn.
use Rattle.std.specs.Prelude.{ℕ, ◌≡◌, List, [], ◌∷◌, Option, Some, None}
use Rattle.atomic_table.specs.Seated.{TableId}
use Rattle.cod_turn.specs.declared.view.View.{View}

-- of which turn it is, and what it knows
pub record Seated (T : Type 0) : Type 0 where
  pub of : TableId
  pub knows : View T

module _ {T : Type 0} where
  -- the seat holds nothing
  abbrev pub IsIdle : Seated T → Type 0
  IsIdle s = s.knows.hold ≡ None

  -- the seat of a table has taken the slot out just where it holds the turn
  abbrev pub carried : Option T → List (ℕ × Option T)
  carried None = []
  carried (Some x) = (0, None) ∷ []
