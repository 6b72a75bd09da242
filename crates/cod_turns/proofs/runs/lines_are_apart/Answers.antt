use Rattle.cod_turns.proofs.Numbering.{lines_are_apart}
use Rattle.cod_turns.proofs.runs.lines_are_apart.Goals as goal

pub returns : goal.returns
returns c = lines_are_apart
