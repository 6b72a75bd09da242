use Rattle.std.proofs.Common.{◌+◌, ◌-◌, ◌∙◌, arith}
use Rattle.std.specs.List.{flat_map, range_with_len}
use Rattle.std.proofs.lemmas.Result.{err_from_is_err_and}
use Rattle.cod_print.proofs.Fronts.{took_front, took_more}
use Rattle.cod_tool.specs.Coefficients.{row_text}
use Rattle.cod_shell.proofs.Texts.{texts_split_from, texts_more_from}
use Rattle.cod_tool.proofs.coding.rows.Goals as goal

pub returns-in_err-row-clause-text : goal.returns-in_err-row-clause-text
returns-in_err-row-clause-text g c =
    let p = err_from_is_err_and c.from_residual.result c.from_residual.ensures.1 in
    let k = c.args.code.now.k in
    let n = c.args.code.now.n in
    let f = row_text k in
    let i = c.loop-column.column in
    rw p.1 (took_front _ _ _ (flat_map f (range_with_len k (n - k))) (flat_map f (range_with_len k (i - k))) _ (flat_map f (range_with_len (i + 1) (n - (i + 1)))) c.loop-column.invariant.taken
    c.in_err-row.ensures.text
    (texts_split_from f k n i c.loop-column.auto.column (omega arith)))

pub loop-column-preserved : goal.loop-column-preserved
loop-column-preserved g c = record {
  taken = rw (texts_more_from (row_text c.args.code.now.k) c.args.code.now.k c.loop-column.column c.loop-column.auto.column)
      (took_more _ _ _ _ _ c.loop-column.invariant.taken c.in_ok-row.ensures.text);
  same = c.in_ok-row.ensures.cause.kept ∙ c.loop-column.invariant.same;
}
