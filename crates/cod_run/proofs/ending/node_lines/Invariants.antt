use Rattle.std.proofs.Common.{◌≡◌, List}
use Rattle.std.specs.List.{flat_map, range_with_len}
use Rattle.std.specs.Io.KnownBytes.{append_known}
use Rattle.cod_place.specs.Rooms.{AddUp}
use Rattle.cod_seg.specs.Seg.{Seg}
use Rattle.cod_segment.specs.Events.{rooms_of}
use Rattle.cod_shell.specs.Lines.{node_line}
use Rattle.cod_run.proofs.ending.node_lines.Given as goal

abbrev pub invariant-loop-node : goal.invariant-loop-node
invariant-loop-node g l = record {
  taken : (segs : List Seg) → AddUp l.pools (flat_map rooms_of segs)
      → g.W.Sink.taken l.sink ≡ append_known (g.W.Sink.taken l.fn.sink) (flat_map (node_line l.names l.board segs) (range_with_len 0 l.node));
  same : g.W.Sink.fault_count l.sink ≡ g.W.Sink.fault_count l.fn.sink;
}
