use Rattle.cod_chronicle.proofs.Stepping.{unanswered_are_marks}
use Rattle.cod_chronicle.proofs.events.unanswered_are_marks.Goals as goal

pub returns : goal.returns
returns c = unanswered_are_marks
