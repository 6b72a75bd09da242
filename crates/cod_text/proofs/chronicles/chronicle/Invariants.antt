use Rattle.std.proofs.Common.{◌≡◌, ◌++◌, List, length, map}
use Rattle.std.specs.Io.KnownBytes.{append_known}
use Rattle.std.specs.List.{flat_map, AllByRecursion}
use Rattle.cod_chronicle.specs.Order.{order}
use Rattle.cod_text.specs.Printed.{line_text}
use Rattle.cod_text.proofs.Within.{IsBelow}
use Rattle.cod_text.proofs.chronicles.chronicle.Given as goal

abbrev pub invariant-loop-placed : goal.invariant-loop-placed
invariant-loop-placed g l = record {
  taken : (done : List _) × (order (map g.T.Stands.entries l.all) ≡ done ++ l.placed-iterator) × (g.W.Sink.taken l.sink ≡ append_known (g.W.Sink.taken l.fn.sink) (flat_map
      (λ p. line_text l.names p) done));
  within : AllByRecursion (IsBelow (length l.all)) l.placed-iterator;
  same : g.W.Sink.fault_count l.sink ≡ g.W.Sink.fault_count l.fn.sink;
}
