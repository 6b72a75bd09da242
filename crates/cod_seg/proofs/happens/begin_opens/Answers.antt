use Rattle.cod_seg.proofs.Happening.{begin_opens as lemma}
use Rattle.cod_seg.proofs.happens.begin_opens.Goals as goal

pub returns : goal.returns
returns c = lemma
