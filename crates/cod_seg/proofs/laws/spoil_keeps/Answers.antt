use Rattle.cod_seg.proofs.Spoiling.{spoils_keep as lemma}
use Rattle.cod_seg.proofs.laws.spoil_keeps.Goals as goal

pub returns : goal.returns
returns c = lemma
