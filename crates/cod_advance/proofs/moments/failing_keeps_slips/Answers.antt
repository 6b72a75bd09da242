use Rattle.cod_advance.proofs.Slipping.{failing_keeps_slips}
use Rattle.cod_advance.proofs.moments.failing_keeps_slips.Goals as goal

pub returns : goal.returns
returns c = failing_keeps_slips
