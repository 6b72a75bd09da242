use Rattle.cod_accounts.proofs.Owing.{client_fulfils}
use Rattle.cod_accounts.proofs.closing.client_fulfils.Goals as goal

pub returns : goal.returns
returns g c = client_fulfils g.T.Stands.entries g.T.Stands.open_calls
