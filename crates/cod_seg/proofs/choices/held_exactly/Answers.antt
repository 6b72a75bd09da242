use Rattle.cod_seg.proofs.Serving.{held_exactly as lemma}
use Rattle.cod_seg.proofs.choices.held_exactly.Goals as goal

pub returns : goal.returns
returns c = lemma
