use Rattle.cod_advance.proofs.Working.{holding_adds_none}
use Rattle.cod_advance.proofs.work.holding_adds_none.Goals as goal

pub returns : goal.returns
returns c = holding_adds_none
