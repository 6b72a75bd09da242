use Rattle.std.proofs.Common.{◌≡◌, ◌≤◌, ◌*◌}
use Rattle.std.specs.List.{range_with_len, sum_by}
use Rattle.cod_script.specs.Room.{column_on}
use Rattle.cod_tool.proofs.planning.columns_take.Given as goal

abbrev pub invariant-loop-col : goal.invariant-loop-col
invariant-loop-col l = record {
  sum : l.size ≡ sum_by (column_on l.names.shape l.names.nodes l.node l.seg) (range_with_len 0 l.col);
  most : l.size ≤ l.col * 8388608;
}
