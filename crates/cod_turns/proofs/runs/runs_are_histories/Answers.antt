use Rattle.cod_turns.proofs.Running.{runs_are_histories}
use Rattle.cod_turns.proofs.runs.runs_are_histories.Goals as goal

pub returns : goal.returns
returns c = runs_are_histories
