use Rattle.cod_advance.proofs.Worldly.{serving_is_turn}
use Rattle.cod_advance.proofs.worlds.serving_is_turn.Goals as goal

pub returns : goal.returns
returns c = serving_is_turn
