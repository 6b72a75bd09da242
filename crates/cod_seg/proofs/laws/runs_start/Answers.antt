use Rattle.cod_seg.proofs.Running.{runs_start as lemma}
use Rattle.cod_seg.proofs.laws.runs_start.Goals as goal

pub returns : goal.returns
returns c = lemma
