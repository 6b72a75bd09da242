use Rattle.cod_turns.proofs.Opening.{turn_tells_of_line}
use Rattle.cod_turns.proofs.open.turn_tells_of_line.Goals as goal

pub returns : goal.returns
returns c = turn_tells_of_line
