-- An interrupted read counts no fault.
use Rattle.std.proofs.Common.{◌≡◌, length}
use Rattle.cod_io.proofs.standard.StdSourceSource.read.Given as goal

abbrev pub invariant-loop : goal.invariant-loop
invariant-loop g l = record {
  uncounted : l.self-inside.faults ≡ l.initial.self-inside.faults;
  size : length l.into ≡ length l.initial.into;
}
