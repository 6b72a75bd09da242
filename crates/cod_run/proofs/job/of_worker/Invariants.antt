use Rattle.std.proofs.Common.{◌≡◌, length}
use Rattle.cod_run.specs.Jobs.{care_lines, jobs_of}
use Rattle.cod_run.proofs.job.of_worker.Given as goal

abbrev pub invariant-loop-round : goal.invariant-loop-round
invariant-loop-round l = l.list.items ≡ jobs_of l.scenario.shape (care_lines l.worker l.scenario.workers (length l.scenario.segments) l.repair l.round)
