use Rattle.cod_chronicle.proofs.Growing.{grows_by_call}
use Rattle.cod_chronicle.proofs.events.grows_by_call.Goals as goal

pub returns : goal.returns
returns c = grows_by_call
