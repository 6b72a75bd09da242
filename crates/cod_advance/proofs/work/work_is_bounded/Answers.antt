use Rattle.cod_advance.proofs.Falling.{work_is_bounded}
use Rattle.cod_advance.proofs.work.work_is_bounded.Goals as goal

pub returns : goal.returns
returns c = work_is_bounded
