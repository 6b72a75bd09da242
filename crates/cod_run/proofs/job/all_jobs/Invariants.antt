use Rattle.std.proofs.Common.{◌≡◌}
use Rattle.cod_script.specs.Owed.{has_fail}
use Rattle.cod_run.specs.Jobs.{AreJobs, IsBareSoFar}
use Rattle.cod_run.proofs.job.all_jobs.Given as goal

abbrev pub invariant-callers : goal.invariant-callers
invariant-callers l = AreJobs l.fn.scenario l.caller l.all.items × IsBareSoFar l.fn.scenario l.scenario l.caller × (l.repair ≡ has_fail l.fn.scenario)
