use Rattle.std.proofs.Common.{◌≡◌}
use Rattle.cod_place.proofs.tests.seats.again.Given as goal

abbrev pub invariant-loop : goal.invariant-loop
invariant-loop g l = l.seat.of ≡ l.initial.seat.of
