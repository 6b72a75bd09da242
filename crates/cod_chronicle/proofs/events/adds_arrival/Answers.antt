use Rattle.cod_chronicle.proofs.Adding.{adds_arrival}
use Rattle.cod_chronicle.proofs.events.adds_arrival.Goals as goal

pub returns : goal.returns
returns c = adds_arrival
