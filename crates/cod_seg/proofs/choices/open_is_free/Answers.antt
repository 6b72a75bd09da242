use Rattle.cod_seg.proofs.Serving.{open_is_free as lemma}
use Rattle.cod_seg.proofs.choices.open_is_free.Goals as goal

pub returns : goal.returns
returns c = lemma
