use Rattle.std.proofs.Common.{◌≡◌, ℕ, false, length, get_or}
use Rattle.cod_seg.specs.Seg.{col_at}
use Rattle.cod_repair.proofs.Choosing.{below}
use Rattle.cod_repair.proofs.sources.live_marks.Given as goal

abbrev pub invariant-loop-i : goal.invariant-loop-i
invariant-loop-i g l = record {
  wide : length l.marks ≡ 16;
  each : (j : ℕ) → get_or l.marks j false ≡ below (λ m. (col_at l.columns m).is_up) false l.i j;
}
