use Rattle.cod_chronicle.proofs.Stepping.{step_leads_on}
use Rattle.cod_chronicle.proofs.events.step_leads_on.Goals as goal

pub returns : goal.returns
returns c = step_leads_on
