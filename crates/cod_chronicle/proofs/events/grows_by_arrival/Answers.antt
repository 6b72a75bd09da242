use Rattle.cod_chronicle.proofs.Growing.{grows_by_arrival}
use Rattle.cod_chronicle.proofs.events.grows_by_arrival.Goals as goal

pub returns : goal.returns
returns c = grows_by_arrival
