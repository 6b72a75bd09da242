use Rattle.cod_advance.proofs.Serving.{stepped_is_step}
use Rattle.cod_advance.proofs.served.stepped_is_step.Goals as goal

pub returns : goal.returns
returns c = stepped_is_step
