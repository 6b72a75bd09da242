use Rattle.std.proofs.Common.{◌≡◌, ℕ}
use Rattle.cod_turns.specs.Rounds.{measure, Takings, turns_of}
use Rattle.cod_turns.proofs.Rounding.{RunSoFar}
use Rattle.cod_turns.proofs.machine.run.Given as goal

abbrev pub invariant-rounds : goal.invariant-rounds
invariant-rounds g l = record {
  run : (count : ℕ) × RunSoFar (g.M.Machine.course l.fn.m) count (g.M.Machine.world l.fn.m) (g.M.Machine.world l.m)
      × Takings (g.M.Machine.takes (g.M.Machine.course l.fn.m)) (turns_of (g.M.Machine.course l.fn.m).script count) l.fn.m l.m;
  course : g.M.Machine.course l.m ≡ g.M.Machine.course l.fn.m;
  most : g.M.Machine.most l.m ≡ g.M.Machine.most l.fn.m;
}

abbrev pub decreases-rounds : goal.decreases-rounds
decreases-rounds g l = measure (g.M.Machine.course l.fn.m).script (g.M.Machine.most l.fn.m) (g.M.Machine.world l.m) (g.M.Machine.work l.m)
