use Rattle.std.proofs.Common.{arith}
use Rattle.std.proofs.lemmas.List.Edits.{map_over_more}
use Rattle.cod_claims.specs.Claimed.{released}
use Rattle.cod_claims.proofs.claims.release_each.Goals as goal

pub loop-slot-preserved : goal.loop-slot-preserved
loop-slot-preserved c =
    rw (c.release_one.ensures, ← c.slot-item.is)
    (map_over_more (released c.args.caller.0) c.args.slots.now c.loop-slot.slots c.loop-slot.slot-index c.slot-item.result (omega arith) c.loop-slot.invariant c.slot-item.is)
