use Rattle.std.proofs.Common.{◌≡◌}
use Rattle.cod_segment.specs.Events.{rooms_of}
use Rattle.cod_rounds.specs.Rounds.{Tended}
use Rattle.cod_rounds.proofs.merging.merge_columns.Given as goal

abbrev pub invariant-loop-col : goal.invariant-loop-col
invariant-loop-col g l = record {
  tended : Tended l.col l.fn.segment l.fn.clock l.segment l.clock;
  rooms : rooms_of l.segment ≡ rooms_of l.fn.segment;
  bench : l.bench ≡ l.fn.bench;
}
