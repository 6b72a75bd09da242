use Rattle.std.proofs.Common.{arith}
use Rattle.std.proofs.lemmas.List.Edits.{map_over_more}
use Rattle.cod_claims.specs.Changes.{made}
use Rattle.cod_claims.proofs.slip.make_each.Goals as goal

pub loop-delta-preserved : goal.loop-delta-preserved
loop-delta-preserved c =
    rw (c.make.ensures, ← c.delta-item.is)
    (map_over_more made c.args.deltas.now c.loop-delta.deltas c.loop-delta.delta-index c.delta-item.result (omega arith) c.loop-delta.invariant c.delta-item.is)
