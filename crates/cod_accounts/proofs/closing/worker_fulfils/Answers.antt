use Rattle.cod_accounts.proofs.Owing.{worker_fulfils}
use Rattle.cod_accounts.proofs.closing.worker_fulfils.Goals as goal

pub returns : goal.returns
returns g c = worker_fulfils g.T.Stands.entries g.T.Stands.open_calls
