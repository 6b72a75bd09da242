use Rattle.cod_advance.proofs.Worldly.{start_is_start}
use Rattle.cod_advance.proofs.worlds.start_is_start.Goals as goal

pub returns : goal.returns
returns c = start_is_start
