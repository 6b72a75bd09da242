use Rattle.cod_parity.proofs.Pieces.{pieces_fit}
use Rattle.cod_parity.proofs.laws.pieces_fit.Goals as goal

pub returns : goal.returns
returns c = pieces_fit
