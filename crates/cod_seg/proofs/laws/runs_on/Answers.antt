use Rattle.cod_seg.proofs.Running.{runs_on as lemma}
use Rattle.cod_seg.proofs.laws.runs_on.Goals as goal

pub returns : goal.returns
returns c = lemma
