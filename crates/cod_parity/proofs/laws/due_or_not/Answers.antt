use Rattle.cod_parity.proofs.Lowest.{due_or_not}
use Rattle.cod_parity.proofs.laws.due_or_not.Goals as goal

pub returns : goal.returns
returns c = due_or_not
