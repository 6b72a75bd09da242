use Rattle.cod_parity.proofs.Pieces.{due_when_committed}
use Rattle.cod_parity.proofs.laws.due_when_committed.Goals as goal

pub returns : goal.returns
returns c = due_when_committed
