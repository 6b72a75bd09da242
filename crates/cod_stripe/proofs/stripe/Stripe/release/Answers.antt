use Rattle.std.proofs.Common.{None, sym, subst}
use Rattle.cod_seg.specs.Sound.{Sound}
use Rattle.cod_seg.proofs.Owning.{owner_keeps}
use Rattle.cod_stripe.proofs.stripe.Stripe.release.Goals as goal

pub invariant_of-self : goal.invariant_of-self
invariant_of-self g c = subst Sound (sym c.release_rooms.ensures.becomes) (owner_keeps c.self.inside.segment None c.self.invariant)
