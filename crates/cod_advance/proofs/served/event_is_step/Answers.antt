use Rattle.cod_advance.proofs.Serving.{event_is_step}
use Rattle.cod_advance.proofs.served.event_is_step.Goals as goal

pub returns : goal.returns
returns c = event_is_step
