use Rattle.cod_parity.proofs.Pieces.{piece_most}
use Rattle.cod_parity.proofs.laws.piece_most.Goals as goal

pub returns : goal.returns
returns c = piece_most
