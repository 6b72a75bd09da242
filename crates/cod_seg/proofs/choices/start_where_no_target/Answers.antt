use Rattle.cod_seg.proofs.Serving.{start_where_no_target as lemma}
use Rattle.cod_seg.proofs.choices.start_where_no_target.Goals as goal

pub returns : goal.returns
returns c = lemma
