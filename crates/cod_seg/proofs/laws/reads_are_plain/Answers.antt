use Rattle.cod_seg.proofs.Running.{reads_are_plain as lemma}
use Rattle.cod_seg.proofs.laws.reads_are_plain.Goals as goal

pub returns : goal.returns
returns c = lemma
