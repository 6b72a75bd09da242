use Rattle.std.proofs.Common.{◌≡◌, ◌≤◌, ◌*◌}
use Rattle.std.specs.List.{range_with_len, sum_by}
use Rattle.cod_script.specs.Room.{taken_by}
use Rattle.cod_tool.proofs.planning.all_take.Given as goal

abbrev pub invariant-loop-seg : goal.invariant-loop-seg
invariant-loop-seg l = record {
  sum : l.size ≡ sum_by (taken_by l.names.shape l.names.nodes l.node) (range_with_len 0 l.seg);
  most : l.size ≤ l.seg * 2147483648;
}
