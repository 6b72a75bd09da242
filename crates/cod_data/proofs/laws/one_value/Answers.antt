use Rattle.cod_data.proofs.Values.{one_value}
use Rattle.cod_data.proofs.laws.one_value.Goals as goal

pub returns : goal.returns
returns c = one_value
