use Rattle.cod_seg.proofs.Serving.{answers_at_once as lemma}
use Rattle.cod_seg.proofs.choices.answers_at_once.Goals as goal

pub returns : goal.returns
returns c = lemma
