use Rattle.std.proofs.Common.{sym, ◌∙◌, map-id}
use Rattle.std.proofs.lemmas.Iterator.Adapters.{YieldsList-from_vec}
use Rattle.std.proofs.lemmas.Iterator.Consumers.{YieldsList-end}
use Rattle.cod_run.proofs.Shifting.{all_given}
use Rattle.cod_run.proofs.threads.shifts.Goals as goal

pub returns-clause-jobs : goal.returns-clause-jobs
returns-clause-jobs g c =
    let gives = c.into_iter-pass-iterator.ensures.into_iter_gives in
    let e = YieldsList-end (YieldsList-from_vec {s = c.into_iter-pass-iterator.result} c.args.passes.items gives.0 (gives.1
    ∙ c.args.passes.ok.0)) c.shifts.yielded c.shifts.pass-iterator c.shifts.yielded_by c.next.result c.next.new.self c.in-None.is c.next.ensures.steps in
    all_given (λ s. s.pass) (λ s. s.jobs) c.shifts.shifts.items c.args.passes.items c.args.all.items c.shifts.all.items
    (c.shifts.invariant.passes_are ∙ (sym (map-id c.shifts.yielded) ∙ e.0)) c.shifts.invariant.jobs_are c.requires
