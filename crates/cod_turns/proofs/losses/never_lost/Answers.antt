use Rattle.cod_turns.proofs.Losing.{never_lost}
use Rattle.cod_turns.proofs.losses.never_lost.Goals as goal

pub returns : goal.returns
returns c = never_lost
