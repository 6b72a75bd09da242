use Rattle.cod_parity.proofs.Pieces.{merged_length}
use Rattle.cod_parity.proofs.laws.merged_length.Goals as goal

pub returns : goal.returns
returns c = merged_length
