use Rattle.cod_chronicle.proofs.Adding.{adds_call}
use Rattle.cod_chronicle.proofs.events.adds_call.Goals as goal

pub returns : goal.returns
returns c = adds_call
