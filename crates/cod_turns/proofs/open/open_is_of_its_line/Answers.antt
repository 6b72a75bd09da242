use Rattle.cod_turns.proofs.Opening.{open_is_of_its_line}
use Rattle.cod_turns.proofs.open.open_is_of_its_line.Goals as goal

pub returns : goal.returns
returns c = open_is_of_its_line
