use Rattle.cod_advance.proofs.Lining.{turn_leads_on}
use Rattle.cod_advance.proofs.moments.turn_leads_on.Goals as goal

pub returns : goal.returns
returns c = turn_leads_on
