use Rattle.cod_chronicle.proofs.Adding.{adds_nothing}
use Rattle.cod_chronicle.proofs.events.adds_nothing.Goals as goal

pub returns : goal.returns
returns c = adds_nothing
