use Rattle.std.proofs.Common.{◌+◌, ◌-◌, ap, ◌∙◌, arith}
use Rattle.cod_types.specs.Limits.{Shape}
use Rattle.std.specs.List.{flat_map, range_with_len}
use Rattle.std.proofs.lemmas.Result.{err_from_is_err_and}
use Rattle.cod_print.proofs.Fronts.{took_front, took_more}
use Rattle.cod_shell.specs.Lines.{column_text}
use Rattle.cod_shell.proofs.Texts.{texts_split, texts_more}
use Rattle.cod_shell.proofs.printing.columns.Goals as goal

pub returns-in_err-column-clause-text : goal.returns-in_err-column-clause-text
returns-in_err-column-clause-text g c =
    let p = err_from_is_err_and c.from_residual.result c.from_residual.ensures.1 in
    let f = column_text c.args.names.now c.args.stripe.now in
    let n = c.args.names.now.shape.n in
    let i = c.loop-col.col in
    rw p.1 (took_front _ _ _ (flat_map f (range_with_len 0 n)) (flat_map f (range_with_len 0 i)) _ (flat_map f (range_with_len (i + 1) (n - (i + 1)))) c.loop-col.invariant.taken
    c.in_err-column.ensures.text (texts_split f n i (omega (arith, c.n-col-end.ensures, ap (λ (s : Shape). s.n) c.geometry.ensures))))

pub loop-col-preserved : goal.loop-col-preserved
loop-col-preserved g c = record {
  taken = rw (texts_more (column_text c.args.names.now c.args.stripe.now) c.loop-col.col) (took_more _ _ _ _ _ c.loop-col.invariant.taken c.in_ok-column.ensures.text);
  same = c.in_ok-column.ensures.cause.kept ∙ c.loop-col.invariant.same;
}
