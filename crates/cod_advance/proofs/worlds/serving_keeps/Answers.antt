use Rattle.cod_advance.proofs.Worldly.{serving_keeps}
use Rattle.cod_advance.proofs.worlds.serving_keeps.Goals as goal

pub returns : goal.returns
returns c = serving_keeps
