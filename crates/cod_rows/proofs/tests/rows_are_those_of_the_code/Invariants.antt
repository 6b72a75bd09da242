use Rattle.std.proofs.Common.{◌≡◌}
use Rattle.cod_rows.proofs.tests.rows_are_those_of_the_code.Given as goal

abbrev pub invariant-loop-round : goal.invariant-loop-round
invariant-loop-round g l = l.rows ≡ l.code

abbrev pub invariant-loop-index : goal.invariant-loop-index
invariant-loop-index g l = l.rows ≡ l.code
