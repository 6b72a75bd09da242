use Rattle.cod_pass.proofs.Naming.{names_tell}
use Rattle.cod_calls.proofs.laws.names_tell.Goals as goal

pub returns : goal.returns
returns c = names_tell
