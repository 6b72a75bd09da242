use Rattle.std.proofs.Common.{◌≡◌, ◌++◌, List, ℕ, length}
use Rattle.std.specs.Io.KnownBytes.{append_known}
use Rattle.cod_print.proofs.put.text.Given as goal

abbrev pub invariant-rest : goal.invariant-rest
invariant-rest g l = (front : List ℕ) × (l.bytes ≡ front ++ l.rest)
    × (g.W.Sink.taken l.sink ≡ append_known (g.W.Sink.taken l.fn.sink) front)
    × (g.W.Sink.fault_count l.sink ≡ g.W.Sink.fault_count l.fn.sink)

abbrev pub decreases-rest : goal.decreases-rest
decreases-rest g l = length l.rest
