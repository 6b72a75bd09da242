use Rattle.cod_accounts.proofs.Works.{meeting_keeps}
use Rattle.cod_accounts.proofs.working.meeting_keeps.Goals as goal

pub returns : goal.returns
returns g c = meeting_keeps g.T.Stands.entries g.T.Stands.open_calls
