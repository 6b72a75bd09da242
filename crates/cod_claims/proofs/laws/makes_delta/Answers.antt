use Rattle.cod_claims.proofs.Joining.{makes_delta}
use Rattle.cod_claims.proofs.laws.makes_delta.Goals as goal

pub returns : goal.returns
returns c = makes_delta
