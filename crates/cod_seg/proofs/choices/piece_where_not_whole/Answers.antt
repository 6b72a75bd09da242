use Rattle.cod_seg.proofs.Serving.{piece_where_not_whole as lemma}
use Rattle.cod_seg.proofs.choices.piece_where_not_whole.Goals as goal

pub returns : goal.returns
returns c = lemma
