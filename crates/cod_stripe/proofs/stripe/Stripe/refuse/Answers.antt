use Rattle.std.proofs.Common.{◌≡◌, ◌∙◌, length, true, refl, sym, ap, subst, Some}
use Rattle.cod_segment.specs.declared.asking.Asker.{Asker}
use Rattle.cod_segment.specs.declared.asking.Outcome.TheVariants.{Answered}
use Rattle.cod_segment.specs.Events.{call_in, IsAsked, IsOutcome, Makes, request_of}
use Rattle.cod_segment.proofs.Answering.{calm_setting, makes_refusal, outcome, sound_after, refusal_idle, refused}
use Rattle.cod_stripe.proofs.stripe.Stripe.refuse.Goals as goal

pub answer-requires-clause-newest : goal.answer-requires-clause-newest
answer-requires-clause-newest g c =
    let asked : IsAsked c.self.inside.segment c.asker-asker.result.caller.0 c.asker-asker.result.number c.args.slip.now (call_in c.args.slip.now) = rw (c.self.view_is, c.asker-asker.ensures) c.requires.asked in
    asked.newest

pub returns-clause-makes : goal.returns-clause-makes
returns-clause-makes g c = λ w setting seen.
    let asked : IsAsked c.self.inside.segment c.asker-asker.result.caller.0 c.asker-asker.result.number c.args.slip.now (call_in c.args.slip.now) = rw (c.self.view_is, c.asker-asker.ensures) c.requires.asked in
    let m = makes_refusal w c.self.inside.segment c.answer.new.self c.asker-asker.result.caller c.asker-asker.result.number c.answer.new.clock c.args.around.now.clock.now c.args.slip.now (call_in c.args.slip.now) c.refusal_of-entered.result
    c.self.invariant asked c.refusal_of-entered.ensures c.answer.ensures.clock c.answer.ensures.follows c.answer.ensures.becomes in
    rw (← c.self.view_is, c.answer.ensures.outcome)
    (subst (λ (a : Asker). Makes w (request_of a.caller.0 a.number (call_in c.args.slip.now)) c.args.around.now.clock.now c.answer.new.clock true c.self.inside.segment c.answer.new.self) c.asker-asker.ensures m)

pub invariant_of-self : goal.invariant_of-self
invariant_of-self g c =
    let asked : IsAsked c.self.inside.segment c.asker-asker.result.caller.0 c.asker-asker.result.number c.args.slip.now (call_in c.args.slip.now) = rw (c.self.view_is, c.asker-asker.ensures) c.requires.asked in
    let m = makes_refusal (calm_setting c.self.inside.segment) c.self.inside.segment c.answer.new.self c.asker-asker.result.caller c.asker-asker.result.number c.answer.new.clock c.args.around.now.clock.now c.args.slip.now
    (call_in c.args.slip.now) c.refusal_of-entered.result c.self.invariant asked c.refusal_of-entered.ensures c.answer.ensures.clock c.answer.ensures.follows c.answer.ensures.becomes in
    sound_after (calm_setting c.self.inside.segment) (request_of c.asker-asker.result.caller.0 c.asker-asker.result.number (call_in c.args.slip.now)) c.args.around.now.clock.now c.answer.new.clock true c.self.inside.segment c.answer.new.self
    c.self.invariant m

pub returns-clause-outcome : goal.returns-clause-outcome
returns-clause-outcome g c =
    let asked : IsAsked c.self.inside.segment c.asker-asker.result.caller.0 c.asker-asker.result.number c.args.slip.now (call_in c.args.slip.now) = rw (c.self.view_is, c.asker-asker.ensures) c.requires.asked in
    let none = refusal_idle c.self.inside.segment c.asker-asker.result.caller.0 c.asker-asker.result.number c.args.slip.now (call_in c.args.slip.now) c.refusal_of-entered.result c.self.invariant asked c.refusal_of-entered.ensures in
    let same : c.refusal_of-entered.result ≡ c.refusal_of-told.result = let e : Some c.refusal_of-entered.result ≡ Some c.refusal_of-told.result = sym c.refusal_of-entered.ensures ∙ c.refusal_of-told.ensures in cc in
    let o = outcome c.self.inside.segment c.answer.new.self c.asker-asker.result.caller c.asker-asker.result.number c.answer.new.clock c.self.inside.segment.version (call_in c.args.slip.now) c.refusal_of-entered.result c.answer.new.slip none c.answer.ensures.becomes
    (rw c.answer.ensures.slip (ap Some (sym same))) in
    rw c.answer.ensures.outcome
    (subst (λ (a : Asker). IsOutcome (Answered (length c.self.inside.segment.log) c.answer.new.clock) (request_of a.caller.0 a.number (call_in c.args.slip.now)) c.answer.new.clock c.answer.new.self c.answer.new.slip) c.asker-asker.ensures o)

pub refusal_of-entered-requires-clause-refused : goal.refusal_of-entered-requires-clause-refused
refusal_of-entered-requires-clause-refused g c =
    let e = refused c.args.self.now c.args.around.now.caller.0 (call_in c.args.slip.now) c.requires.next in
    rw (c.self.view_is, e.1) refl
