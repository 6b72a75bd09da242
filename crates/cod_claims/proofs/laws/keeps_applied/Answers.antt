use Rattle.cod_claims.proofs.Claiming.{keeps_applied}
use Rattle.cod_claims.proofs.laws.keeps_applied.Goals as goal

pub returns : goal.returns
returns c = keeps_applied
