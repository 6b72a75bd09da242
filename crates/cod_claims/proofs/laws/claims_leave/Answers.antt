use Rattle.cod_claims.proofs.Leaving.{claims_leave}
use Rattle.cod_claims.proofs.laws.claims_leave.Goals as goal

pub returns : goal.returns
returns c = claims_leave
