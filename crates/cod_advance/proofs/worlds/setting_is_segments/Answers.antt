use Rattle.cod_advance.proofs.Worldly.{setting_is_segments}
use Rattle.cod_advance.proofs.worlds.setting_is_segments.Goals as goal

pub returns : goal.returns
returns c = setting_is_segments
