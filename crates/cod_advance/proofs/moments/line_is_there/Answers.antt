use Rattle.cod_advance.proofs.Lining.{line_is_there}
use Rattle.cod_advance.proofs.moments.line_is_there.Goals as goal

pub returns : goal.returns
returns c = line_is_there
