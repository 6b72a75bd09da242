use Rattle.cod_seg.proofs.Serving.{drain_where_live as lemma}
use Rattle.cod_seg.proofs.choices.drain_where_live.Goals as goal

pub returns : goal.returns
returns c = lemma
