use Rattle.cod_seg.proofs.Happening.{others_keep_open as lemma}
use Rattle.cod_seg.proofs.happens.others_keep_open.Goals as goal

pub returns : goal.returns
returns c = lemma
