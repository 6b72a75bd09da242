use Rattle.cod_claims.proofs.Opening.{claims_open}
use Rattle.cod_claims.proofs.laws.claims_open.Goals as goal

pub returns : goal.returns
returns c = claims_open
