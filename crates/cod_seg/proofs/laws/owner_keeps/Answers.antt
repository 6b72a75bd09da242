use Rattle.cod_seg.proofs.Owning.{owner_keeps as lemma}
use Rattle.cod_seg.proofs.laws.owner_keeps.Goals as goal

pub returns : goal.returns
returns c = lemma
