use Rattle.std.proofs.Common.{◌≡◌}
use Rattle.cod_closing.specs.Joining.{IsOurs, with_passes}
use Rattle.cod_closing.proofs.joining.join_passes.Given as goal

abbrev pub invariant-passes : goal.invariant-passes
invariant-passes g l = record {
  joined : l.rest ≡ with_passes l.fn.rest l.yielded;
  ours : IsOurs l.turns l.shared.board l.shared.pools.of l.rest;
}
