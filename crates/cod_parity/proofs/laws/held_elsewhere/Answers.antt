use Rattle.cod_parity.proofs.Unique.{held_elsewhere}
use Rattle.cod_parity.proofs.laws.held_elsewhere.Goals as goal

pub returns : goal.returns
returns c = held_elsewhere
