use Rattle.cod_advance.proofs.Lining.{number_is_small}
use Rattle.cod_advance.proofs.moments.number_is_small.Goals as goal

pub returns : goal.returns
returns c = number_is_small
