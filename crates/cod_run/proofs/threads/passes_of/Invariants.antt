use Rattle.std.proofs.Common.{◌≡◌, map}
use Rattle.std.specs.Prelude.{vec_capacity}
use Rattle.cod_run.proofs.threads.passes_of.Given as goal

abbrev pub invariant-shifts : goal.invariant-shifts
invariant-shifts g l = record {
  passes_are : l.passes.items ≡ map (λ s. s.pass) l.yielded;
  room : vec_capacity l.passes ≡ vec_capacity l.fn.room;
}
