use Rattle.cod_parity.proofs.Lowest.{due_included, due_to}
use Rattle.cod_parity.proofs.laws.due_where_included.Goals as goal

pub returns : goal.returns
returns c = λ g cuts records few each small. (due_to g few cuts records each small, due_included g cuts records few each)
