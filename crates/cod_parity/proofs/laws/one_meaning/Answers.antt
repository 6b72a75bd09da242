use Rattle.cod_parity.proofs.Unique.{one_meaning}
use Rattle.cod_parity.proofs.laws.one_meaning.Goals as goal

pub returns : goal.returns
returns c = one_meaning
