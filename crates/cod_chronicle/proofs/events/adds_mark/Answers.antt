use Rattle.cod_chronicle.proofs.Adding.{adds_mark}
use Rattle.cod_chronicle.proofs.events.adds_mark.Goals as goal

pub returns : goal.returns
returns c = adds_mark
