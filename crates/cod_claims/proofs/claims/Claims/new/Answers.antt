use Rattle.cod_claims.proofs.Claiming.{unclaimed_are}
use Rattle.cod_claims.proofs.claims.Claims.new.Goals as goal

pub invariant_of-result : goal.invariant_of-result
invariant_of-result c = unclaimed_are
