use Rattle.std.proofs.Common.{arith}
use Rattle.cod_turn.proofs.Keeps.{looks}
use Rattle.cod_turn.proofs.Sitting.{board}
use Rattle.cod_turn.proofs.turn.Turn.count.Goals as goal

pub load-requires : goal.load-requires
load-requires g c =
    let two = c.self.invariant.0 in
    (board c.seat.inside.seat c.args.seat.now c.args.self.now _ c.seat.view_is c.requires.turn c.self.view_is, omega arith, looks _ _ _ _ _ _)
