use Rattle.cod_turns.proofs.Opening.{start_is_of_its_lines}
use Rattle.cod_turns.proofs.open.start_is_of_its_lines.Goals as goal

pub returns : goal.returns
returns c = start_is_of_its_lines
