use Rattle.std.proofs.Common.{◌≡◌, ◌∙◌, ◌<◌, ap, arith}
use Rattle.std.proofs.lemmas.List.{get_or_read}
use Rattle.cod_types.specs.declared.call.NodeId.{NodeId}
use Rattle.cod_seg.specs.Seg.{Col, col_at, no_col}
use Rattle.cod_repair.proofs.Choosing.{taken_more}
use Rattle.cod_repair.proofs.sources.taken.Goals as goal

pub loop-i-preserved : goal.loop-i-preserved
loop-i-preserved g c =
    let cols = c.args.columns.now in
    let i = c.loop-i.i in
    let e : c.index-columns-i.result ≡ col_at cols i = get_or_read cols i c.index-columns-i.result c.loop-i-test.true c.index-columns-i.is no_col in
    let is : c.node.result.0 ≡ (col_at cols i).room.node.0 = ap (λ (n : NodeId). n.0) (c.node.ensures ∙ ap (λ (x : Col). x.room.node) e) in
    let small : (col_at cols i).room.node.0 < 64 = c.requires i no_col c.loop-i-test.true in
    taken_more cols i c.loop-i.nodes c.node.result.0 c.loop-i-test.true is (omega (arith, is, small)) c.loop-i.invariant
