use Rattle.cod_chronicle.proofs.Growing.{grows_not}
use Rattle.cod_chronicle.proofs.events.grows_not.Goals as goal

pub returns : goal.returns
returns c = grows_not
