use Rattle.cod_chronicle.proofs.Stepping.{leaves_others_calls}
use Rattle.cod_chronicle.proofs.events.leaves_others_calls.Goals as goal

pub returns : goal.returns
returns c = leaves_others_calls
