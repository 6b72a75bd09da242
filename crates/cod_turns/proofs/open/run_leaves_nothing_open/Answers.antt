use Rattle.cod_turns.proofs.Rounding.{run_leaves_nothing_open}
use Rattle.cod_turns.proofs.open.run_leaves_nothing_open.Goals as goal

pub returns : goal.returns
returns c = run_leaves_nothing_open
