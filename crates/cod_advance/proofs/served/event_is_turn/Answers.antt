use Rattle.cod_advance.proofs.Serving.{event_is_turn}
use Rattle.cod_advance.proofs.served.event_is_turn.Goals as goal

pub returns : goal.returns
returns c = event_is_turn
