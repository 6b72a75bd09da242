use Rattle.std.proofs.Common.{refl}
use Rattle.cod_claims.specs.Claimed.{released}
use Rattle.cod_claims.proofs.Claiming.{kept_by_each, released_keeps}
use Rattle.cod_claims.proofs.claims.Claims.release.Goals as goal

pub invariant_of-self : goal.invariant_of-self
invariant_of-self c = rw c.release_each.ensures (kept_by_each (released c.args.caller.0) refl (released_keeps c.args.caller.0) c.self.inside.slots c.self.invariant)
