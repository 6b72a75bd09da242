use Rattle.std.proofs.Common.{◌≡◌, ℕ, None, length, get_or}
use Rattle.cod_seg.specs.Seg.{col_at}
use Rattle.cod_repair.specs.Columns.{live_node}
use Rattle.cod_repair.proofs.Choosing.{below}
use Rattle.cod_repair.proofs.sources.live_nodes.Given as goal

abbrev pub invariant-loop-i : goal.invariant-loop-i
invariant-loop-i g l = record {
  wide : length l.nodes ≡ 16;
  each : (j : ℕ) → get_or l.nodes j None ≡ below (λ m. live_node (col_at l.columns m)) None l.i j;
}
