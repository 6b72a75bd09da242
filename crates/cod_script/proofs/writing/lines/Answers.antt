use Rattle.std.proofs.Common.{take, drop, arith, ◌+◌}
use Rattle.std.proofs.lemmas.Result.{err_from_is_err_and}
use Rattle.std.specs.List.{flat_map}
use Rattle.cod_script.specs.declared.line.Line.{Line}
use Rattle.cod_script.specs.Text.{what_text}
use Rattle.cod_print.proofs.Fronts.{took_front, flat_map_split}
use Rattle.cod_script.proofs.writing.lines.Goals as goal

pub returns-in_err-what-clause-text : goal.returns-in_err-what-clause-text
returns-in_err-what-clause-text g c =
    let p = err_from_is_err_and c.from_residual.result c.from_residual.ensures.1 in
    let h = c.in_err-what.ensures.text in
    let xs = c.args.lines.now in
    let i = c.loop-line.line-index in
    rw (p.1) (took_front _ _ _ (flat_map (λ (l : Line). what_text c.args.segments.now l.what) xs) (flat_map (λ (l : Line). what_text c.args.segments.now l.what) (take i xs)) _ (flat_map
    (λ (l : Line). what_text c.args.segments.now l.what) (drop (i + 1) xs)) c.loop-line.invariant.taken h (rw (← c.line-item.is) at (flat_map_split
    (λ (l : Line). what_text c.args.segments.now l.what) xs i c.line-item.result (omega arith))))
