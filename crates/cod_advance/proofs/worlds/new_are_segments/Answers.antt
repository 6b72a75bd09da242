use Rattle.cod_advance.proofs.Worldly.{new_are_segments}
use Rattle.cod_advance.proofs.worlds.new_are_segments.Goals as goal

pub returns : goal.returns
returns c = new_are_segments
