use Rattle.cod_seg.proofs.Happening.{step_grows_event as lemma}
use Rattle.cod_seg.proofs.happens.step_grows.Goals as goal

pub returns : goal.returns
returns c = lemma
