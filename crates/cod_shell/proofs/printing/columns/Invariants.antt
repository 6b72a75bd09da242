use Rattle.std.proofs.Common.{◌≡◌}
use Rattle.std.specs.List.{flat_map, range_with_len}
use Rattle.std.specs.Io.KnownBytes.{append_known}
use Rattle.cod_shell.specs.Lines.{column_text}
use Rattle.cod_shell.proofs.printing.columns.Given as goal

abbrev pub invariant-loop-col : goal.invariant-loop-col
invariant-loop-col g l = record {
  taken : g.W.Sink.taken l.sink ≡ append_known (g.W.Sink.taken l.fn.sink) (flat_map (column_text l.names l.stripe) (range_with_len 0 l.col));
  same : g.W.Sink.fault_count l.sink ≡ g.W.Sink.fault_count l.fn.sink;
}
