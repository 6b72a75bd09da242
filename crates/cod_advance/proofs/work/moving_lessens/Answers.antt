use Rattle.cod_advance.proofs.Working.{moving_lessens}
use Rattle.cod_advance.proofs.work.moving_lessens.Goals as goal

pub returns : goal.returns
returns c = moving_lessens
