use Rattle.std.proofs.Common.{◌+◌, Bool, List, sym, ap, ◌∙◌, subst}
use Rattle.cod_run.specs.Jobs.{AreJobs, jobs_of, lines_due}
use Rattle.cod_run.specs.declared.job.Job.{Job}
use Rattle.cod_run.proofs.Moved.{bare_more, jobs_more}
use Rattle.cod_run.proofs.job.all_jobs.Goals as goal

pub callers-preserved : goal.callers-preserved
callers-preserved c =
    let whole = c.args.scenario.now in
    let now = c.callers.scenario in
    let inv = c.callers.invariant in (
      subst (λ (l : List (List Job)). AreJobs whole (c.callers.caller + 1) l) (sym {A = List (List Job)} c.in_ok-push_back.ensures.items)
          (jobs_more whole now c.callers.caller c.callers.all.items c.in_ok-of_caller.field-0 inv.0 inv.1
          (c.in_ok-of_caller.ensures.jobs ∙ ap (λ (b : Bool). jobs_of now.shape (lines_due now b c.callers.caller)) inv.2)),
      bare_more whole now c.of_caller.new.scenario c.callers.caller inv.1 c.in_ok-of_caller.ensures.rest,
      inv.2,
    )
