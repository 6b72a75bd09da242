use Rattle.cod_advance.proofs.Slipping.{slip_is_asked}
use Rattle.cod_advance.proofs.moments.slip_is_asked.Goals as goal

pub returns : goal.returns
returns c = slip_is_asked
