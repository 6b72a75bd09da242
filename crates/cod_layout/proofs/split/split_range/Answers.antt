use Rattle.std.proofs.Common.{◌≡◌, ◌∙◌, arith}
use Rattle.cod_layout.proofs.Splitting.{grown_by_part, grown_by_none, length-parts, parts_split}
use Rattle.cod_layout.proofs.split.split_range.Goals as goal
use Rattle.cod_layout.proofs.split.split_range.Goals.{then-from-to, else-from-to}

pub push-requires : goal.push-requires
push-requires c =
    let most = length-parts c.args.g.now.block c.args.off c.args.len 0 c.loop-block.block in
    let within = c.k-block-end.ensures.within in
    rw c.loop-block.invariant (omega (arith, most, c.loop-block-test.true, c.k-block-end.ensures.value, within.data_among_columns, within.most_columns))

pub loop-block-preserved : goal.loop-block-preserved
loop-block-preserved c = elim c.if-from-to.branch [
  | then-from-to w ↦ w.parts-is ∙ w.push.ensures
      ∙ grown_by_part c.args.g.now.block c.args.off c.args.len c.loop-block.block c.block-size.result c.max-from.result c.min-to.result c.loop-block.parts
      c.block-size.ensures c.max-from.ensures c.min-to.ensures w.if-from-to.true c.loop-block.invariant
  | else-from-to w ↦ w.parts-is
      ∙ grown_by_none c.args.g.now.block c.args.off c.args.len c.loop-block.block c.block-size.result c.max-from.result c.min-to.result c.loop-block.parts
      c.block-size.ensures c.max-from.ensures c.min-to.ensures w.if-from-to.false c.loop-block.invariant
]

pub returns-clause-split : goal.returns-clause-split
returns-clause-split c =
    let all : c.loop-block.block ≡ c.args.g.now.k = omega (arith, c.loop-block-test.false, c.k-block-end.ensures.value) in
    rw (c.loop-block.invariant, all) (parts_split c.args.g.now.k c.args.g.now.block c.args.off c.args.len c.requires)
