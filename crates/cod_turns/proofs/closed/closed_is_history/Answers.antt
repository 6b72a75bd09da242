use Rattle.cod_turns.proofs.Closing.{closed_is_history}
use Rattle.cod_turns.proofs.closed.closed_is_history.Goals as goal

pub returns : goal.returns
returns c = closed_is_history
