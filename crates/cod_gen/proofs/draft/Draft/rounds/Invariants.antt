use Rattle.std.proofs.Common.{◌+◌, ◌*◌, ◌≤◌}
use Rattle.cod_gen.proofs.Rounds_drawn.{RoundsSoFar}
use Rattle.cod_gen.proofs.draft.Draft.rounds.Given as goal

abbrev pub invariant-loop-round : goal.invariant-loop-round
invariant-loop-round l = record {
  so_far : RoundsSoFar l.client l.round l.fn.self l.self;
  line : l.self.line ≤ l.fn.self.line + l.round * 43;
}
