use Rattle.std.proofs.Common.{◌≡◌}
use Rattle.cod_place.proofs.Looking.{Looking}
use Rattle.cod_place.proofs.shared.SharedPools.take.Given as goal

abbrev pub invariant-loop : goal.invariant-loop
invariant-loop g l = (l.seat-inside.seat.table_id ≡ l.initial.seat-inside.seat.table_id) × (l.seat-inside.counts ≡ l.initial.seat-inside.counts)
    × Looking l.initial.seat-inside.seat.me l.seat-inside.seat.me
