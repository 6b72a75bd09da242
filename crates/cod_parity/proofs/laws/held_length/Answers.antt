use Rattle.cod_parity.proofs.Pieces.{held_length}
use Rattle.cod_parity.proofs.laws.held_length.Goals as goal

pub returns : goal.returns
returns c = held_length
