use Rattle.cod_advance.proofs.Leading.{leads_are_turns}
use Rattle.cod_advance.proofs.histories.leads_are_turns.Goals as goal

pub returns : goal.returns
returns c = leads_are_turns
