use Rattle.std.proofs.Common.{◌≡◌}
use Rattle.cod_turn.specs.Seats.{IsIdle}
use Rattle.cod_turn.specs.Numbered.{Numbered}
use Rattle.cod_turn.proofs.tests.add_all.Given as goal

abbrev pub invariant-loop-number : goal.invariant-loop-number
invariant-loop-number g l = (l.seat.of ≡ l.initial.seat.of) × IsIdle l.seat × Numbered l.caller l.number l.seat.knows
