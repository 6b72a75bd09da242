use Rattle.cod_advance.proofs.Worldly.{failing_is_turn}
use Rattle.cod_advance.proofs.worlds.failing_is_turn.Goals as goal

pub returns : goal.returns
returns c = failing_is_turn
