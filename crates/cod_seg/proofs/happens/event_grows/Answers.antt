use Rattle.cod_seg.proofs.Happening.{event_grows as lemma}
use Rattle.cod_seg.proofs.happens.event_grows.Goals as goal

pub returns : goal.returns
returns c = lemma
