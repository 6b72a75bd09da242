use Rattle.std.proofs.Common.{◌≡◌}
use Rattle.cod_turn.proofs.turn.Turn.take.Given as goal

abbrev pub invariant-loop : goal.invariant-loop
invariant-loop g l = l.seat ≡ l.initial.seat
