use Rattle.cod_advance.proofs.Worldly.{ending_is_turn}
use Rattle.cod_advance.proofs.worlds.ending_is_turn.Goals as goal

pub returns : goal.returns
returns c = ending_is_turn
