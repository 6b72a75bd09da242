use Rattle.cod_seg.proofs.Claimings.{begins_keep as lemma}
use Rattle.cod_seg.proofs.laws.begin_keeps.Goals as goal

pub returns : goal.returns
returns c = lemma
