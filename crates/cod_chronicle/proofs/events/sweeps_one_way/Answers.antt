use Rattle.cod_chronicle.proofs.Sweeping.{sweeps_one_way}
use Rattle.cod_chronicle.proofs.events.sweeps_one_way.Goals as goal

pub returns : goal.returns
returns c = sweeps_one_way
