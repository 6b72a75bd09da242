use Rattle.cod_parity.proofs.Pieces.{appended_length}
use Rattle.cod_parity.proofs.laws.appended_length.Goals as goal

pub returns : goal.returns
returns c = appended_length
