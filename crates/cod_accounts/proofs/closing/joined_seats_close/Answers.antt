use Rattle.cod_accounts.proofs.Joins.{joined_seats_close}
use Rattle.cod_accounts.proofs.closing.joined_seats_close.Goals as goal

pub returns : goal.returns
returns g c = joined_seats_close g.T.Stands.name g.T.Stands.entries g.T.Stands.open_calls
