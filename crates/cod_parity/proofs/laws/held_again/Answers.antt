use Rattle.cod_parity.proofs.Unique.{held_again}
use Rattle.cod_parity.proofs.laws.held_again.Goals as goal

pub returns : goal.returns
returns c = held_again
