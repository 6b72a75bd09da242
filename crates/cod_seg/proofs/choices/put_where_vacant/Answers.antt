use Rattle.cod_seg.proofs.Beginnings.{put_where_vacant as lemma}
use Rattle.cod_seg.proofs.choices.put_where_vacant.Goals as goal

pub returns : goal.returns
returns c = lemma
