use Rattle.std.proofs.Common.{◌≡◌, ◌+◌, ◌*◌, ◌<◌, length, ℕ}
use Rattle.std.specs.Prelude.{slice_index}
use Rattle.cod_chronicle.specs.Walk.{IsSoonest}
use Rattle.cod_chronicle.proofs.walk.soonest_of_each.Given as goal

abbrev pub invariant-loop-group : goal.invariant-loop-group
invariant-loop-group l = (length l.soonest ≡ 32) × ((g : ℕ) → g < l.group → IsSoonest l.rests (slice_index l.soonest g) (g * 32) (g * 32 + 32))
