use Rattle.cod_seg.proofs.Starting.{new_is_sound}
use Rattle.cod_stripe.proofs.stripe.Stripe.build.Goals as goal

pub invariant_of-result : goal.invariant_of-result
invariant_of-result g c = new_is_sound c.in_ok-segment.segment c.in_ok-segment.ensures.new
