use Rattle.std.specs.List.{flat_map}
use Rattle.std.proofs.lemmas.Result.{err_from_is_err_and}
use Rattle.cod_script.specs.declared.line.Line.{Line}
use Rattle.cod_script.specs.Text.{what_text}
use Rattle.cod_print.proofs.Fronts.{took_first, puts_behind}
use Rattle.cod_script.proofs.writing.client.Goals as goal

pub returns-in_err-named-clause-text : goal.returns-in_err-named-clause-text
returns-in_err-named-clause-text g c =
    let p = err_from_is_err_and c.from_residual.result c.from_residual.ensures.1 in
    let h = rw (c.as_bytes.ensures.value, c.name.ensures) at c.in_err-named.ensures.text in
    rw (p.1) (took_first _ _ _ (flat_map (λ (l : Line). what_text c.args.segments.now l.what) c.args.client.now.lines) h)

pub returns-clause-text : goal.returns-clause-text
returns-clause-text g c =
    let h = rw (c.as_bytes.ensures.value, c.name.ensures) at c.in_ok-named.ensures.text in
    puts_behind c.lines-2.result _ _ _ _ (flat_map (λ (l : Line). what_text c.args.segments.now l.what) c.args.client.now.lines) h (rw c.lines.ensures at c.lines-2.ensures.text)
