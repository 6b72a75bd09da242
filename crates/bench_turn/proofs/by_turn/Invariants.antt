use Rattle.std.proofs.Common.{◌≡◌, ℕ, ◌∷◌, []}
use Rattle.cod_turn.specs.Seats.{IsIdle}
use Rattle.cod_turn.specs.Turning.{callers}
use Rattle.bench_turn.proofs.by_turn.Given as goal

abbrev pub invariant-loop : goal.invariant-loop
invariant-loop g l = (l.seat.of ≡ l.initial.seat.of) × IsIdle l.seat × ((n : ℕ) × (callers l.seat.knows ≡ n ∷ []))
