use Rattle.cod_seg.proofs.Serving.{held_by_open as lemma}
use Rattle.cod_seg.proofs.choices.held_by_open.Goals as goal

pub returns : goal.returns
returns c = lemma
