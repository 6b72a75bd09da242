use Rattle.cod_turns.proofs.Opening.{ends_with_nothing_open}
use Rattle.cod_turns.proofs.open.ends_with_nothing_open.Goals as goal

pub returns : goal.returns
returns c = ends_with_nothing_open
