use Rattle.cod_advance.proofs.Working.{event_is_progress}
use Rattle.cod_advance.proofs.work.event_is_progress.Goals as goal

pub returns : goal.returns
returns c = event_is_progress
