use Rattle.std.proofs.Common.{length, ap, ◌∙◌}
use Rattle.cod_types.specs.Limits.{Shape}
use Rattle.cod_run.specs.Jobs.{job_of}
use Rattle.cod_run.proofs.Dues.{care_jobs}
use Rattle.cod_run.proofs.job.of_worker.Goals as goal

pub loop-round-preserved : goal.loop-round-preserved
loop-round-preserved c =
    let x = c.args.scenario.now in
    c.in_ok-push_back.ensures.items
    ∙ care_jobs x.shape c.args.worker x.workers (length x.segments) c.args.repair c.loop-round.round c.loop-round.list.items c.in_ok-of_line.field-0 c.care_line-line.result c.loop-round.invariant
    c.care_line-line.ensures.line (c.in_ok-of_line.ensures ∙ ap (λ (g : Shape). job_of g c.care_line-line.result) c.geometry.ensures)
