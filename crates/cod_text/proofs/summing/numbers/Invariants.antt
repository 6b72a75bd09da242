use Rattle.std.proofs.Common.{◌≡◌, take}
use Rattle.std.specs.Io.KnownBytes.{append_known}
use Rattle.std.specs.List.{flat_map}
use Rattle.cod_text.specs.Summary.{count_text}
use Rattle.cod_text.proofs.summing.numbers.Given as goal

abbrev pub invariant-loop-count : goal.invariant-loop-count
invariant-loop-count g l = record {
  taken : g.W.Sink.taken l.sink ≡ append_known (g.W.Sink.taken l.fn.sink) (flat_map (λ d. count_text (d.0.now, d.1)) (take l.count-index l.counts));
  same : g.W.Sink.fault_count l.sink ≡ g.W.Sink.fault_count l.fn.sink;
}
