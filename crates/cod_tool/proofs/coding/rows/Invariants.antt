use Rattle.std.proofs.Common.{◌≡◌, ◌-◌}
use Rattle.std.specs.List.{flat_map, range_with_len}
use Rattle.std.specs.Io.KnownBytes.{append_known}
use Rattle.cod_tool.specs.Coefficients.{row_text}
use Rattle.cod_tool.proofs.coding.rows.Given as goal

abbrev pub invariant-loop-column : goal.invariant-loop-column
invariant-loop-column g l = record {
  taken : g.W.Sink.taken l.sink ≡ append_known (g.W.Sink.taken l.fn.sink) (flat_map (row_text l.code.k) (range_with_len l.code.k (l.column - l.code.k)));
  same : g.W.Sink.fault_count l.sink ≡ g.W.Sink.fault_count l.fn.sink;
}
