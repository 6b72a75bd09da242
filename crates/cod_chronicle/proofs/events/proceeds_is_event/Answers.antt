use Rattle.cod_chronicle.proofs.Sweeping.{proceeds_is_event}
use Rattle.cod_chronicle.proofs.events.proceeds_is_event.Goals as goal

pub returns : goal.returns
returns c = proceeds_is_event
