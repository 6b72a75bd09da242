use Rattle.cod_accounts.proofs.Works.{call_leaves_ready}
use Rattle.cod_accounts.proofs.working.call_leaves_ready.Goals as goal

pub returns : goal.returns
returns g c = call_leaves_ready g.T.Stands.entries g.T.Stands.open_calls
