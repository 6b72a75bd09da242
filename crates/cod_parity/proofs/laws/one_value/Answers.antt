use Rattle.cod_parity.proofs.Unique.{one_value}
use Rattle.cod_parity.proofs.laws.one_value.Goals as goal

pub returns : goal.returns
returns c = one_value
