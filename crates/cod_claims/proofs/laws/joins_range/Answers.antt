use Rattle.cod_claims.proofs.Joining.{joins_range}
use Rattle.cod_claims.proofs.laws.joins_range.Goals as goal

pub returns : goal.returns
returns c = joins_range
