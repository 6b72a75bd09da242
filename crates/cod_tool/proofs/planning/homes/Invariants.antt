use Rattle.std.proofs.Common.{◌≡◌, ◌∷◌, decimal}
use Rattle.std.specs.List.{flat_map, range_with_len}
use Rattle.std.specs.Io.KnownBytes.{append_known}
use Rattle.cod_types.specs.Columns.{home_of}
use Rattle.cod_tool.proofs.planning.homes.Given as goal

abbrev pub invariant-loop-col : goal.invariant-loop-col
invariant-loop-col g l = record {
  taken : g.W.Sink.taken l.sink ≡ append_known (g.W.Sink.taken l.fn.sink) (flat_map (λ i. 32 ∷ decimal (home_of l.seg i l.names.nodes)) (range_with_len 0 l.col));
  same : g.W.Sink.fault_count l.sink ≡ g.W.Sink.fault_count l.fn.sink;
}
