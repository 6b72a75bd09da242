use Rattle.std.proofs.Common.{◌≡◌, take}
use Rattle.std.specs.List.{flat_map}
use Rattle.std.specs.Io.KnownBytes.{append_known}
use Rattle.cod_shell.specs.Lines.{columns_text}
use Rattle.cod_shell.proofs.printing.layouts.Given as goal

abbrev pub invariant-loop-stripe : goal.invariant-loop-stripe
invariant-loop-stripe g l = record {
  taken : g.W.Sink.taken l.sink ≡ append_known (g.W.Sink.taken l.fn.sink) (flat_map (columns_text l.names) (take l.stripe-index l.stripes));
  same : g.W.Sink.fault_count l.sink ≡ g.W.Sink.fault_count l.fn.sink;
}
