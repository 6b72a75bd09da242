use Rattle.std.proofs.Common.{◌≡◌, take, length}
use Rattle.cod_turns.specs.Rounds.{Takings, TurnsWork}
use Rattle.cod_turns.proofs.machine.scheduled_turns.Given as goal

abbrev pub invariant-loop-i : goal.invariant-loop-i
invariant-loop-i g l = record {
  turned : TurnsWork (g.M.Machine.course l.fn.m) (g.M.Machine.most l.fn.m) (take l.i (g.M.Machine.course l.fn.m).script.schedule)
      (g.M.Machine.world l.fn.m) (g.M.Machine.world l.m) (g.M.Machine.work l.fn.m) (g.M.Machine.work l.m);
  took : Takings (g.M.Machine.takes (g.M.Machine.course l.fn.m)) (take l.i (g.M.Machine.course l.fn.m).script.schedule) l.fn.m l.m;
  course : g.M.Machine.course l.m ≡ g.M.Machine.course l.fn.m;
  most : g.M.Machine.most l.m ≡ g.M.Machine.most l.fn.m;
  turns : l.turns ≡ length (g.M.Machine.course l.fn.m).script.schedule;
}
