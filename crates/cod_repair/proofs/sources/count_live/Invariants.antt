use Rattle.std.proofs.Common.{◌≡◌, ◌≤◌}
use Rattle.cod_seg.specs.Laws.{up_below}
use Rattle.cod_repair.proofs.sources.count_live.Given as goal

abbrev pub invariant-loop-i : goal.invariant-loop-i
invariant-loop-i g l = record {
  few : l.count ≤ l.i;
  counted : l.count ≡ up_below l.i l.columns;
}
