use Rattle.cod_chronicle.proofs.Stepping.{marks_stand_after}
use Rattle.cod_chronicle.proofs.events.marks_stand_after.Goals as goal

pub returns : goal.returns
returns c = marks_stand_after
