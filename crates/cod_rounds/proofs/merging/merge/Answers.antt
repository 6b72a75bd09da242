use Rattle.std.proofs.Common.{◌<◌, All, true, refl, sym, subst}
use Rattle.cod_segment.specs.Events.{call_in, request_of}
use Rattle.cod_seg.specs.declared.next.Step.TheVariants as step
use Rattle.cod_segment.proofs.Answering.{outcome, sound_after}
use Rattle.cod_rounds.proofs.Answered.{costs_tended, makes_tended, merge_is, open_after, tending_idle}
use Rattle.cod_rounds.proofs.Passing.{own_is, own_setting}
use Rattle.cod_rounds.proofs.merging.merge.Goals as goal

pub answer_done-requires-clause-newest : goal.answer_done-requires-clause-newest
answer_done-requires-clause-newest g c =
    subst (All (λ m. m < c.args.asker.number)) (sym (c.merge_columns.ensures.tended.runs.numbers c.args.asker.caller.0)) c.requires.asked.newest

pub returns-clause-makes : goal.returns-clause-makes
returns-clause-makes g c = λ w setting.
    let call = call_in c.args.slip.now in
    let m = makes_tended w c.args.segment.now c.merge_columns.new.segment c.answer_done.new.self c.args.asker.caller c.args.asker.number c.answer_done.new.clock c.args.clock.now c.merge_columns.new.clock
    c.args.segment.now.site.shape.n c.args.slip.now call (merge_is c.args.segment.now c.args.asker.caller.0 call c.requires.next) c.requires.sound c.requires.asked setting
    c.merge_columns.ensures.tended c.answer_done.ensures.clock c.answer_done.ensures.follows c.answer_done.ensures.becomes in
    rw c.answer_done.ensures.outcome m

pub returns-clause-sound : goal.returns-clause-sound
returns-clause-sound g c =
    let call = call_in c.args.slip.now in
    let w = own_setting c.args.segment.now in
    let m = makes_tended w c.args.segment.now c.merge_columns.new.segment c.answer_done.new.self c.args.asker.caller c.args.asker.number c.answer_done.new.clock c.args.clock.now c.merge_columns.new.clock
    c.args.segment.now.site.shape.n c.args.slip.now call (merge_is c.args.segment.now c.args.asker.caller.0 call c.requires.next) c.requires.sound c.requires.asked (own_is c.args.segment.now)
    c.merge_columns.ensures.tended c.answer_done.ensures.clock c.answer_done.ensures.follows c.answer_done.ensures.becomes in
    sound_after w (request_of c.args.asker.caller.0 c.args.asker.number call) c.args.clock.now c.answer_done.new.clock true c.args.segment.now c.answer_done.new.self c.requires.sound m

pub returns-clause-outcome : goal.returns-clause-outcome
returns-clause-outcome g c =
    let call = call_in c.args.slip.now in
    let s = c.args.segment.now in
    let u = c.merge_columns.new.segment in
    let runs = c.merge_columns.ensures.tended.runs in
    let none = open_after s u c.args.asker.caller.0 runs.claims runs.rebuild
    (tending_idle s c.args.asker.caller.0 c.args.asker.number c.args.slip.now call (merge_is s c.args.asker.caller.0 call c.requires.next) c.requires.sound c.requires.asked) in
    rw c.answer_done.ensures.outcome
    (outcome u c.answer_done.new.self c.args.asker.caller c.args.asker.number c.answer_done.new.clock u.version call _ c.answer_done.new.slip none c.answer_done.ensures.becomes
    (rw c.answer_done.ensures.slip refl))

pub returns-clause-costs : goal.returns-clause-costs
returns-clause-costs g c = λ none.
    costs_tended c.args.segment.now c.merge_columns.new.segment c.answer_done.new.self c.args.asker.caller.0 (call_in c.args.slip.now) step.Merge c.args.clock.now c.merge_columns.new.clock (λ i old new is. is) (λ i. refl)
    (λ col t. refl) c.merge_columns.ensures.tended _ c.answer_done.ensures.becomes none
