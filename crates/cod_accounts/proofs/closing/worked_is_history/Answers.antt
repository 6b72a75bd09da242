use Rattle.cod_accounts.proofs.Ending.{worked_is_history}
use Rattle.cod_accounts.proofs.closing.worked_is_history.Goals as goal

pub returns : goal.returns
returns g c = worked_is_history g.T.Stands.name g.T.Stands.entries g.T.Stands.open_calls
