use Rattle.std.proofs.Common.{◌≡◌, length, true, refl, subst}
use Rattle.cod_seg.specs.Next.{next_step}
use Rattle.cod_seg.specs.declared.next.Step.TheVariants as step
use Rattle.cod_segment.specs.declared.asking.Asker.{Asker}
use Rattle.cod_segment.specs.declared.asking.Outcome.TheVariants.{Answered}
use Rattle.cod_segment.specs.Events.{call_in, IsAsked, IsOutcome, Makes, request_of}
use Rattle.cod_types.specs.declared.call.Reply.TheVariants.{Clear}
use Rattle.cod_segment.proofs.Answering.{calm_setting, outcome, sound_after}
use Rattle.cod_stripe.proofs.AtOnce.{clear_idle, makes_clear}
use Rattle.cod_stripe.proofs.stripe.Stripe.clear.Goals as goal

pub answer-requires-clause-newest : goal.answer-requires-clause-newest
answer-requires-clause-newest g c =
    let asked : IsAsked c.self.inside.segment c.asker-asker.result.caller.0 c.asker-asker.result.number c.args.slip.now (call_in c.args.slip.now) = rw (c.self.view_is, c.asker-asker.ensures) c.requires.asked in
    asked.newest

pub returns-clause-makes : goal.returns-clause-makes
returns-clause-makes g c = λ w setting seen.
    let asked : IsAsked c.self.inside.segment c.asker-asker.result.caller.0 c.asker-asker.result.number c.args.slip.now (call_in c.args.slip.now) = rw (c.self.view_is, c.asker-asker.ensures) c.requires.asked in
    let next : next_step c.self.inside.segment c.asker-asker.result.caller.0 (call_in c.args.slip.now) ≡ step.Clear = rw (c.self.view_is, c.asker-asker.ensures) c.requires.next in
    let m = makes_clear w c.self.inside.segment c.answer.new.self c.asker-asker.result.caller c.asker-asker.result.number c.answer.new.clock c.args.around.now.clock.now c.args.slip.now (call_in c.args.slip.now)
    c.self.invariant asked next c.answer.ensures.clock c.answer.ensures.follows c.answer.ensures.becomes in
    rw (← c.self.view_is, c.answer.ensures.outcome)
    (subst (λ (a : Asker). Makes w (request_of a.caller.0 a.number (call_in c.args.slip.now)) c.args.around.now.clock.now c.answer.new.clock true c.self.inside.segment c.answer.new.self) c.asker-asker.ensures m)

pub invariant_of-self : goal.invariant_of-self
invariant_of-self g c =
    let asked : IsAsked c.self.inside.segment c.asker-asker.result.caller.0 c.asker-asker.result.number c.args.slip.now (call_in c.args.slip.now) = rw (c.self.view_is, c.asker-asker.ensures) c.requires.asked in
    let next : next_step c.self.inside.segment c.asker-asker.result.caller.0 (call_in c.args.slip.now) ≡ step.Clear = rw (c.self.view_is, c.asker-asker.ensures) c.requires.next in
    let m = makes_clear (calm_setting c.self.inside.segment) c.self.inside.segment c.answer.new.self c.asker-asker.result.caller c.asker-asker.result.number c.answer.new.clock c.args.around.now.clock.now c.args.slip.now
    (call_in c.args.slip.now) c.self.invariant asked next c.answer.ensures.clock c.answer.ensures.follows c.answer.ensures.becomes in
    sound_after (calm_setting c.self.inside.segment) (request_of c.asker-asker.result.caller.0 c.asker-asker.result.number (call_in c.args.slip.now)) c.args.around.now.clock.now c.answer.new.clock true c.self.inside.segment c.answer.new.self
    c.self.invariant m

pub returns-clause-outcome : goal.returns-clause-outcome
returns-clause-outcome g c =
    let asked : IsAsked c.self.inside.segment c.asker-asker.result.caller.0 c.asker-asker.result.number c.args.slip.now (call_in c.args.slip.now) = rw (c.self.view_is, c.asker-asker.ensures) c.requires.asked in
    let next : next_step c.self.inside.segment c.asker-asker.result.caller.0 (call_in c.args.slip.now) ≡ step.Clear = rw (c.self.view_is, c.asker-asker.ensures) c.requires.next in
    let none = clear_idle c.self.inside.segment c.asker-asker.result.caller.0 c.asker-asker.result.number c.args.slip.now (call_in c.args.slip.now) next c.self.invariant asked in
    let o = outcome c.self.inside.segment c.answer.new.self c.asker-asker.result.caller c.asker-asker.result.number c.answer.new.clock c.self.inside.segment.version (call_in c.args.slip.now) Clear c.answer.new.slip none c.answer.ensures.becomes
    (rw c.answer.ensures.slip refl) in
    rw c.answer.ensures.outcome
    (subst (λ (a : Asker). IsOutcome (Answered (length c.self.inside.segment.log) c.answer.new.clock) (request_of a.caller.0 a.number (call_in c.args.slip.now)) c.answer.new.clock c.answer.new.self c.answer.new.slip) c.asker-asker.ensures o)
