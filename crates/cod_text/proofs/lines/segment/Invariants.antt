use Rattle.std.proofs.Common.{◌≡◌, ◌++◌, List}
use Rattle.std.specs.Io.KnownBytes.{append_known}
use Rattle.std.specs.List.{flat_map}
use Rattle.cod_chronicle.specs.Order.{place}
use Rattle.cod_text.specs.Printed.{line_text}
use Rattle.cod_text.proofs.lines.segment.Given as goal

abbrev pub invariant-loop-e : goal.invariant-loop-e
invariant-loop-e g l = record {
  taken : (done : List _) × (l.chronicle ≡ done ++ l.e-iterator) × (g.W.Sink.taken l.sink ≡ append_known (g.W.Sink.taken l.fn.sink) (flat_map (λ e. line_text l.names (place l.seg.0 e)) done));
  same : g.W.Sink.fault_count l.sink ≡ g.W.Sink.fault_count l.fn.sink;
}
