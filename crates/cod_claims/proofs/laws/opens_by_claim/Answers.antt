use Rattle.cod_claims.proofs.Opening.{opens_by_claim}
use Rattle.cod_claims.proofs.laws.opens_by_claim.Goals as goal

pub returns : goal.returns
returns c = opens_by_claim
