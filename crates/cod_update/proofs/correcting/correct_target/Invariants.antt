use Rattle.std.proofs.Common.{◌≡◌}
use Rattle.cod_update.specs.Correcting.{IsCorrectedTo}
use Rattle.cod_update.proofs.correcting.correct_target.Given as goal

abbrev pub invariant-loop-block : goal.invariant-loop-block
invariant-loop-block g l = record {
  corrected : IsCorrectedTo l.block l.k l.col l.caller.0 l.claims l.initial.target l.target;
  bench : l.bench ≡ l.initial.bench;
}
