use Rattle.cod_advance.proofs.Totalling.{serving_is_progress}
use Rattle.cod_advance.proofs.worlds.serving_is_progress.Goals as goal

pub returns : goal.returns
returns c = serving_is_progress
