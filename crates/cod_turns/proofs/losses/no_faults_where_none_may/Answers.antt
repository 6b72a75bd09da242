use Rattle.cod_turns.proofs.Losing.{no_faults_where_none_may}
use Rattle.cod_turns.proofs.losses.no_faults_where_none_may.Goals as goal

pub returns : goal.returns
returns c = no_faults_where_none_may
