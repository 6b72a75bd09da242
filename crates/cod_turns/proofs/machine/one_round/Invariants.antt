use Rattle.std.proofs.Common.{◌≡◌, length}
use Rattle.std.specs.List.{range_with_len}
use Rattle.cod_turns.specs.Rounds.{Takings, TurnsWork}
use Rattle.cod_turns.proofs.machine.one_round.Given as goal

abbrev pub invariant-loop-client : goal.invariant-loop-client
invariant-loop-client g l = record {
  turned : TurnsWork (g.M.Machine.course l.fn.m) (g.M.Machine.most l.fn.m) (range_with_len 0 l.client)
      (g.M.Machine.world l.fn.m) (g.M.Machine.world l.m) (g.M.Machine.work l.fn.m) (g.M.Machine.work l.m);
  took : Takings (g.M.Machine.takes (g.M.Machine.course l.fn.m)) (range_with_len 0 l.client) l.fn.m l.m;
  course : g.M.Machine.course l.m ≡ g.M.Machine.course l.fn.m;
  most : g.M.Machine.most l.m ≡ g.M.Machine.most l.fn.m;
  clients : l.clients ≡ length (g.M.Machine.course l.fn.m).script.clients;
}
