use Rattle.cod_seg.proofs.Serving.{holder_by_bits as lemma}
use Rattle.cod_seg.proofs.choices.holder_by_bits.Goals as goal

pub returns : goal.returns
returns c = lemma
