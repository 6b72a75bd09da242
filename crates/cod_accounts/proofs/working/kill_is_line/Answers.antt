use Rattle.cod_accounts.proofs.Works.{kill_is_line}
use Rattle.cod_accounts.proofs.working.kill_is_line.Goals as goal

pub returns : goal.returns
returns g c = kill_is_line g.T.Stands.entries g.T.Stands.open_calls
