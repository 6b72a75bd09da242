use Rattle.cod_turns.proofs.Losing.{lost_exactly}
use Rattle.cod_turns.proofs.losses.lost_exactly.Goals as goal

pub returns : goal.returns
returns c = lost_exactly
