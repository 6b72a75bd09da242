use Rattle.cod_parity.proofs.Lowest.{raised}
use Rattle.cod_parity.proofs.laws.raised_cuts.Goals as goal

pub returns : goal.returns
returns c = raised
