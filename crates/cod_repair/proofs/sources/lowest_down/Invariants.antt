use Rattle.std.proofs.Common.{◌≡◌, ◌<◌, ℕ, true}
use Rattle.cod_seg.specs.Seg.{col_at}
use Rattle.cod_repair.proofs.sources.lowest_down.Given as goal

abbrev pub invariant-loop-i : goal.invariant-loop-i
invariant-loop-i g l = (m : ℕ) → m < l.i → (col_at l.columns m).is_up ≡ true
