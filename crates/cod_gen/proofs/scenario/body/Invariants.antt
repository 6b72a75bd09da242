use Rattle.std.proofs.Common.{◌≡◌}
use Rattle.cod_gen.proofs.Clients.{draft_with}
use Rattle.cod_gen.proofs.scenario.body.Given as goal

abbrev pub invariant-loop-client : goal.invariant-loop-client
invariant-loop-client l = record {
  so_far : l.draft ≡ draft_with l.number l.client;
}
