use Rattle.std.proofs.Common.{arith}
use Rattle.cod_parity.proofs.Moving.{moved_more}
use Rattle.cod_parity.proofs.log.move_down.Goals as goal

pub loop-i-preserved : goal.loop-i-preserved
loop-i-preserved c =
    let both = moved_more c.args.log.now c.loop-i.log c.args.to c.args.from c.loop-i.i c.args.len c.requires.down (omega arith) c.requires.inside (omega arith)
    c.loop-i.invariant.front c.loop-i.invariant.rest in
    record { front = both.0; rest = both.1 }
