use Rattle.cod_seg.proofs.Choosing.{commit_where_everywhere as lemma}
use Rattle.cod_seg.proofs.choices.commit_where_everywhere.Goals as goal

pub returns : goal.returns
returns c = lemma
