use Rattle.cod_seg.proofs.Beginnings.{begin_where_free as lemma}
use Rattle.cod_seg.proofs.choices.begin_where_free.Goals as goal

pub returns : goal.returns
returns c = lemma
