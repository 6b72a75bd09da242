use Rattle.cod_parity.proofs.Pieces.{due_by_length}
use Rattle.cod_parity.proofs.laws.due_by_length.Goals as goal

pub returns : goal.returns
returns c = due_by_length
