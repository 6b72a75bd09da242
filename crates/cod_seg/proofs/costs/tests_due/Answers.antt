use Rattle.cod_seg.proofs.Costing.{tests_due as lemma}
use Rattle.cod_seg.proofs.costs.tests_due.Goals as goal

pub returns : goal.returns
returns c = lemma
