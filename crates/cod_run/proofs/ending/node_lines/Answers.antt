use Rattle.std.proofs.Common.{◌+◌, ◌-◌, ◌∙◌, arith}
use Rattle.std.specs.List.{flat_map, range_with_len}
use Rattle.std.proofs.lemmas.Result.{err_from_is_err_and}
use Rattle.cod_print.proofs.Fronts.{took_front, took_more}
use Rattle.cod_shell.specs.Lines.{node_line}
use Rattle.cod_shell.proofs.Texts.{texts_split, texts_more}
use Rattle.cod_run.proofs.ending.node_lines.Goals as goal

pub returns-in_err-node_line-clause-text : goal.returns-in_err-node_line-clause-text
returns-in_err-node_line-clause-text g c segs sums =
    let p = err_from_is_err_and c.from_residual.result c.from_residual.ensures.1 in
    let f = node_line c.args.names.now c.args.board.now segs in
    let n = c.args.names.now.nodes in
    let i = c.loop-node.node in
    rw p.1 (took_front _ _ _ (flat_map f (range_with_len 0 n)) (flat_map f (range_with_len 0 i)) _ (flat_map f (range_with_len (i + 1) (n - (i + 1)))) (c.loop-node.invariant.taken segs sums)
    (c.in_err-node_line.ensures.text segs sums) (texts_split f n i (omega arith)))

pub loop-node-preserved : goal.loop-node-preserved
loop-node-preserved g c = record {
  taken = λ segs sums. rw (texts_more (node_line c.args.names.now c.args.board.now segs) c.loop-node.node)
      (took_more _ _ _ _ _ (c.loop-node.invariant.taken segs sums) (c.in_ok-node_line.ensures.text segs sums));
  same = c.in_ok-node_line.ensures.cause.kept ∙ c.loop-node.invariant.same;
}
