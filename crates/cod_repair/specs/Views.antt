-- What is seen of a column.
use Rattle.std.specs.Prelude.{Bool, true, false}
use Rattle.cod_parity.specs.State.{empty, State}
use Rattle.cod_repair.specs.declared.column.Life.{Life}
use Rattle.cod_repair.specs.declared.column.Life.TheVariants.{Up, Down}
use Rattle.cod_repair.specs.declared.column.Kind.{Kind}
use Rattle.cod_repair.specs.declared.column.Kind.TheVariants.{Data, Parity}

abbrev pub is_up : Life → Bool
is_up (Up l) = true
is_up Down = false

module _ {R : Type 0} where
  -- a data column is seen as one with an empty reserve
  abbrev pub state_in : Kind R → State
  state_in (Data g d) = empty g 0 10000 d
  state_in (Parity p) = p
