use Rattle.cod_seg.proofs.Choosing.{data_where_due as lemma}
use Rattle.cod_seg.proofs.choices.data_where_due.Goals as goal

pub returns : goal.returns
returns c = lemma
