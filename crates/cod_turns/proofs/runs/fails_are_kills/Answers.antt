use Rattle.cod_turns.proofs.Running.{fails_are_kills}
use Rattle.cod_turns.proofs.runs.fails_are_kills.Goals as goal

pub returns : goal.returns
returns c = fails_are_kills
