use Rattle.cod_advance.proofs.Slipping.{serving_keeps_slips}
use Rattle.cod_advance.proofs.moments.serving_keeps_slips.Goals as goal

pub returns : goal.returns
returns c = serving_keeps_slips
