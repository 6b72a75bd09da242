use Rattle.cod_seg.proofs.Serving.{end_where_whole as lemma}
use Rattle.cod_seg.proofs.choices.end_where_whole.Goals as goal

pub returns : goal.returns
returns c = lemma
