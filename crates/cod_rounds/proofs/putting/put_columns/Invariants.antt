use Rattle.std.proofs.Common.{◌≡◌}
use Rattle.cod_rounds.specs.Rounds.{Given}
use Rattle.cod_rounds.proofs.putting.put_columns.Given as goal

abbrev pub invariant-loop-col : goal.invariant-loop-col
invariant-loop-col g l = record { given : Given l.bytes l.col l.fn.segment l.fn.clock l.segment l.clock; bench : l.bench ≡ l.fn.bench }
