use Rattle.std.proofs.Common.{take, drop, arith, ◌+◌}
use Rattle.std.proofs.lemmas.Result.{err_from_is_err_and}
use Rattle.std.specs.List.{flat_map}
use Rattle.cod_script.specs.Text.{segment_text}
use Rattle.cod_print.proofs.Fronts.{took_front, flat_map_split}
use Rattle.cod_script.proofs.writing.segments.Goals as goal

pub returns-in_err-segment-clause-text : goal.returns-in_err-segment-clause-text
returns-in_err-segment-clause-text g c =
    let p = err_from_is_err_and c.from_residual.result c.from_residual.ensures.1 in
    let h = c.in_err-segment.ensures.text in
    let xs = c.args.segments.now in
    let i = c.loop-name.name-index in
    rw (p.1) (took_front _ _ _ (flat_map segment_text xs) (flat_map segment_text (take i xs)) _ (flat_map segment_text (drop (i + 1) xs)) c.loop-name.invariant.taken h (rw (← c.name-item.is) at
    (flat_map_split segment_text xs i c.name-item.result (omega arith))))
