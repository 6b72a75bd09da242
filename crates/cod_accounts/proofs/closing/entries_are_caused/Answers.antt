use Rattle.cod_accounts.proofs.Causing.{entries_are_caused}
use Rattle.cod_accounts.proofs.closing.entries_are_caused.Goals as goal

pub returns : goal.returns
returns g c = entries_are_caused g.T.Stands.name g.T.Stands.entries g.T.Stands.open_calls
