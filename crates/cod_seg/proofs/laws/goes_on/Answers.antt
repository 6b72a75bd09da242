use Rattle.cod_seg.proofs.Running.{goes_on as lemma}
use Rattle.cod_seg.proofs.laws.goes_on.Goals as goal

pub returns : goal.returns
returns c = lemma
