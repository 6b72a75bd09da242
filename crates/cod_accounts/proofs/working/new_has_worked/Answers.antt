use Rattle.cod_accounts.proofs.Works.{new_has_worked}
use Rattle.cod_accounts.proofs.working.new_has_worked.Goals as goal

pub returns : goal.returns
returns g c = new_has_worked g.T.Stands.entries g.T.Stands.open_calls
