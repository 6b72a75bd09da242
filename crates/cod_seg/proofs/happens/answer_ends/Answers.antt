use Rattle.cod_seg.proofs.Happening.{answer_ends as lemma}
use Rattle.cod_seg.proofs.happens.answer_ends.Goals as goal

pub returns : goal.returns
returns c = lemma
