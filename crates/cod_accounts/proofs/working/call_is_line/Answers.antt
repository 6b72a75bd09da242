use Rattle.cod_accounts.proofs.Works.{call_is_line}
use Rattle.cod_accounts.proofs.working.call_is_line.Goals as goal

pub returns : goal.returns
returns g c = call_is_line g.T.Stands.entries g.T.Stands.open_calls
