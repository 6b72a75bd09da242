use Rattle.std.proofs.Common.{◌≡◌, length}
use Rattle.cod_board.proofs.tests.kill_all.Given as goal

abbrev pub invariant-loop-node : goal.invariant-loop-node
invariant-loop-node l = (l.seat.of ≡ l.initial.seat.of) × (length l.seat.knows.numbers ≡ 1)
