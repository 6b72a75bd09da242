use Rattle.std.proofs.Common.{◌≡◌, ◌≤◌, ◌++◌, map}
use Rattle.std.specs.Prelude.{vec_capacity, vec_len}
use Rattle.cod_run.proofs.threads.shifts.Given as goal

abbrev pub invariant-shifts : goal.invariant-shifts
invariant-shifts g l = record {
  passes_are : map (λ s. s.pass) l.shifts.items ≡ l.yielded;
  jobs_are : l.fn.all.items ≡ map (λ s. s.jobs) l.shifts.items ++ l.all.items;
  room : vec_len l.fn.passes ≤ vec_capacity l.shifts;
}
