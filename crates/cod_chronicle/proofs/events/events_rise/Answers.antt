use Rattle.cod_chronicle.proofs.Stepping.{events_rise}
use Rattle.cod_chronicle.proofs.events.events_rise.Goals as goal

pub returns : goal.returns
returns c = events_rise
