use Rattle.cod_advance.proofs.Lining.{moment_has_room}
use Rattle.cod_advance.proofs.moments.moment_has_room.Goals as goal

pub returns : goal.returns
returns c = moment_has_room
