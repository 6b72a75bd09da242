use Rattle.cod_advance.proofs.Slipping.{first_has_slips}
use Rattle.cod_advance.proofs.moments.first_has_slips.Goals as goal

pub returns : goal.returns
returns c = first_has_slips
