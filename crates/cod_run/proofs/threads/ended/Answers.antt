use Rattle.std.proofs.Common.{length, ap, ◌∙◌}
use Rattle.cod_run.proofs.Finishing.{is_printable}
use Rattle.cod_run.proofs.Played.{are_whole, ended_of, worked_as}
use Rattle.cod_run.proofs.Shifting.{start_as, worked_over}
use Rattle.cod_run.proofs.threads.ended.Goals as goal

pub fulfil-requires-clause-start : goal.fulfil-requires-clause-start
fulfil-requires-clause-start g c κs within =
    (c.requires.ready.0, c.args.start.ending.rest, start_as (λ s. s.pass) (λ s. s.jobs) c.requires.ready.0 _ _ c.as_mut_slice.result.now c.args.start.shifts.items c.as_mut_slice.ensures.value c.requires.ready.1)

pub close-closed-requires-clause-whole : goal.close-closed-requires-clause-whole
close-closed-requires-clause-whole g c =
    let x = c.requires.ready.0 in
    let start = start_as (λ s. s.pass) (λ s. s.jobs) x _ _ c.as_mut_slice.result.now c.args.start.shifts.items c.as_mut_slice.ensures.value c.requires.ready.1 in
    (x, are_whole x _ _ _ (worked_as x _ _ _ c.passes_of.result.items c.passes_of.ensures (worked_over (λ s. s.pass) (λ s. s.jobs) x _ _ c.args.start.shifts.len c.fulfil.new.shifts c.args.start.shifts.items (c.fulfil.ensures.count ∙ ap length c.as_mut_slice.ensures.value) c.args.start.shifts.ok.0 (c.fulfil.ensures.worked x _ start))))

pub returns-clause-end : goal.returns-clause-end
returns-clause-end g c = λ x is.
    let start = start_as (λ s. s.pass) (λ s. s.jobs) x _ _ c.as_mut_slice.result.now c.args.start.shifts.items c.as_mut_slice.ensures.value is in
    let worked = worked_as x _ _ _ c.passes_of.result.items c.passes_of.ensures (worked_over (λ s. s.pass) (λ s. s.jobs) x _ _ c.args.start.shifts.len c.fulfil.new.shifts c.args.start.shifts.items (c.fulfil.ensures.count ∙ ap length c.as_mut_slice.ensures.value) c.args.start.shifts.ok.0 (c.fulfil.ensures.worked x _ start)) in
    ended_of x _ _ _ _ c.as_slice-stripes.result.now _ _ c.as_slice-stripes.ensures.value worked (c.close-closed.ensures x (are_whole x _ _ _ worked)) c.await_all.ensures c.all_fit.ensures

pub returns-clause-left : goal.returns-clause-left
returns-clause-left g c = λ x is.
    let start = start_as (λ s. s.pass) (λ s. s.jobs) x _ _ c.as_mut_slice.result.now c.args.start.shifts.items c.as_mut_slice.ensures.value is in
    let worked = worked_as x _ _ _ c.passes_of.result.items c.passes_of.ensures (worked_over (λ s. s.pass) (λ s. s.jobs) x _ _ c.args.start.shifts.len c.fulfil.new.shifts c.args.start.shifts.items (c.fulfil.ensures.count ∙ ap length c.as_mut_slice.ensures.value) c.args.start.shifts.ok.0 (c.fulfil.ensures.worked x _ start)) in
    is_printable x _ _ _ _ _ (c.close-closed.ensures x (are_whole x _ _ _ worked))
