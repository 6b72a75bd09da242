use Rattle.cod_parity.proofs.Committing.{committed}
use Rattle.cod_parity.proofs.laws.raised_cut.Goals as goal

pub returns : goal.returns
returns c = committed
