use Rattle.std.proofs.Common.{◌∙◌, arith}
use Rattle.cod_claims.proofs.Joining.{joined_fits, joined_more, joined_all}
use Rattle.cod_claims.proofs.slip.join.Goals as goal

pub write_at-requires : goal.write_at-requires
write_at-requires c =
    joined_fits c.args.deltas.now c.loop-delta.delta-index c.delta-item.result _ c.loop-delta.at _ (omega arith) c.delta-item.is c.bytes-piece.ensures.same c.loop-delta.invariant.at
    (c.loop-delta.auto.into ∙ c.requires)

pub loop-delta-preserved : goal.loop-delta-preserved
loop-delta-preserved c =
    let more = joined_more c.args.deltas.now c.loop-delta.delta-index c.delta-item.result c.bytes-piece.result.now c.loop-delta.at c.loop-delta.into c.write_at.new.into (omega arith)
    c.delta-item.is c.bytes-piece.ensures.same (c.loop-delta.auto.into ∙ c.requires) c.loop-delta.invariant.at c.loop-delta.invariant.front c.write_at.ensures in
    record { at = more.0; front = more.1 }

pub returns : goal.returns
returns c =
    joined_all c.args.deltas.now c.loop-delta.delta-index c.loop-delta.at c.loop-delta.into (omega arith) (c.loop-delta.auto.into ∙ c.requires) c.loop-delta.invariant.at c.loop-delta.invariant.front
