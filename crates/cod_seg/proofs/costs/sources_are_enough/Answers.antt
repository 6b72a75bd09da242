use Rattle.cod_seg.proofs.Costing.{sources_are_enough as lemma}
use Rattle.cod_seg.proofs.costs.sources_are_enough.Goals as goal

pub returns : goal.returns
returns c = lemma
