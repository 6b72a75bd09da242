use Rattle.cod_chronicle.proofs.Growing.{grown_is_event}
use Rattle.cod_chronicle.proofs.events.grown_is_event.Goals as goal

pub returns : goal.returns
returns c = grown_is_event
