use Rattle.cod_advance.proofs.Lining.{first_is_moment}
use Rattle.cod_advance.proofs.moments.first_is_moment.Goals as goal

pub returns : goal.returns
returns c = first_is_moment
