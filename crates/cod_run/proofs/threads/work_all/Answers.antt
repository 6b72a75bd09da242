use Rattle.cod_run.proofs.Shifting.{can_seen, worked_seen}
use Rattle.cod_run.proofs.threads.work_all.Goals as goal

pub for_each_mut-requires-clause-accepts : goal.for_each_mut-requires-clause-accepts
for_each_mut-requires-clause-accepts g c κs within = λ i p lt same. can_seen (λ s. s.pass) (λ s. s.jobs) _ p.now _ same (c.requires.can i p.now lt)

pub returns : goal.returns
returns g c = λ i d lt.
    let at = (c.for_each_mut.ensures i d lt).1 in
    worked_seen (λ s. s.pass) (λ s. s.jobs) _ _ _ _ _ at.argument_is at.left at.call
