use Rattle.cod_advance.proofs.Totalling.{all_work_is_bounded}
use Rattle.cod_advance.proofs.worlds.all_work_is_bounded.Goals as goal

pub returns : goal.returns
returns c = all_work_is_bounded
