use Rattle.cod_seg.proofs.Happening.{event_keeps_open as lemma}
use Rattle.cod_seg.proofs.happens.event_keeps_open.Goals as goal

pub returns : goal.returns
returns c = lemma
