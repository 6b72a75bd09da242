use Rattle.cod_stripe.proofs.stripe.Stripe.sweep.Goals as goal

pub returns-clause-makes : goal.returns-clause-makes
returns-clause-makes g c = λ w r setting known seen. rw (← c.self.view_is) (c.sweep.ensures.makes w r (rw c.self.view_is setting) known seen)

pub returns-clause-numbers : goal.returns-clause-numbers
returns-clause-numbers g c = λ caller. rw (← c.self.view_is) (c.sweep.ensures.numbers caller)
