use Rattle.cod_seg.proofs.Costing.{reads_directly as lemma}
use Rattle.cod_seg.proofs.costs.reads_directly.Goals as goal

pub returns : goal.returns
returns c = lemma
