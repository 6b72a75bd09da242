use Rattle.std.proofs.Common.{refl}
use Rattle.cod_claims.specs.Claimed.{forgotten}
use Rattle.cod_claims.proofs.Claiming.{kept_by_each, forgotten_keeps}
use Rattle.cod_claims.proofs.claims.Claims.forget.Goals as goal

pub invariant_of-self : goal.invariant_of-self
invariant_of-self c = rw c.forget_each.ensures (kept_by_each (forgotten c.args.col) refl (forgotten_keeps c.args.col) c.self.inside.slots c.self.invariant)
