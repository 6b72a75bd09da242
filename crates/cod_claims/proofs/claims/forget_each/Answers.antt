use Rattle.std.proofs.Common.{arith}
use Rattle.std.proofs.lemmas.List.Edits.{map_over_more}
use Rattle.cod_claims.specs.Claimed.{forgotten}
use Rattle.cod_claims.proofs.claims.forget_each.Goals as goal

pub loop-slot-preserved : goal.loop-slot-preserved
loop-slot-preserved c =
    rw (c.forget_one.ensures, ← c.slot-item.is)
    (map_over_more (forgotten c.args.col) c.args.slots.now c.loop-slot.slots c.loop-slot.slot-index c.slot-item.result (omega arith) c.loop-slot.invariant c.slot-item.is)
