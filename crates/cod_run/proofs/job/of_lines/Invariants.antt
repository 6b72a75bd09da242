use Rattle.std.proofs.Common.{◌≡◌}
use Rattle.cod_run.specs.Jobs.{jobs_of}
use Rattle.cod_run.proofs.job.of_lines.Given as goal

abbrev pub invariant-lines : goal.invariant-lines
invariant-lines l = l.list.items ≡ jobs_of l.g l.yielded
