use Rattle.std.proofs.Common.{subst}
use Rattle.cod_segment.specs.declared.asking.Asker.{Asker}
use Rattle.cod_segment.specs.Events.{call_in, is_answered, Makes, request_of}
use Rattle.cod_stripe.proofs.stripe.Stripe.drain.Goals as goal

pub returns-clause-makes : goal.returns-clause-makes
returns-clause-makes g c = λ w setting seen. rw (← c.self.view_is)
    (subst (λ (a : Asker). Makes w (request_of a.caller.0 a.number (call_in c.args.slip.now)) c.args.around.now.clock.now c.drain.new.clock (is_answered c.drain.result) c.self.inside.segment c.drain.new.segment)
    c.asker-asker.ensures (c.drain.ensures.makes w (rw c.self.view_is setting) seen))

pub returns-clause-exact : goal.returns-clause-exact
returns-clause-exact g c = λ w known. rw (← c.self.view_is) (c.drain.ensures.exact w known)
