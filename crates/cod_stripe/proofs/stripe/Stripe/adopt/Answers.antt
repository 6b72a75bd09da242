use Rattle.std.proofs.Common.{Some, sym, subst}
use Rattle.cod_seg.specs.Sound.{Sound}
use Rattle.cod_seg.proofs.Owning.{owner_keeps}
use Rattle.cod_stripe.proofs.stripe.Stripe.adopt.Goals as goal

pub invariant_of-self : goal.invariant_of-self
invariant_of-self g c = subst Sound (sym c.adopt_rooms.ensures.becomes) (owner_keeps c.self.inside.segment (Some c.args.shared.now.of) c.self.invariant)
