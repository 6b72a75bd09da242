use Rattle.cod_chronicle.proofs.Stepping.{answered_ends_with_call}
use Rattle.cod_chronicle.proofs.events.answered_ends_with_call.Goals as goal

pub returns : goal.returns
returns c = answered_ends_with_call
