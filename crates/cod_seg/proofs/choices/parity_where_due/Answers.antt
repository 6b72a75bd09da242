use Rattle.cod_seg.proofs.Choosing.{parity_where_due as lemma}
use Rattle.cod_seg.proofs.choices.parity_where_due.Goals as goal

pub returns : goal.returns
returns c = lemma
