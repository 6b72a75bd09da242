use Rattle.std.proofs.Common.{◌+◌, ◌-◌, length, ◌∙◌, arith}
use Rattle.std.specs.List.{flat_map, range_with_len}
use Rattle.std.proofs.lemmas.Result.{err_from_is_err_and}
use Rattle.cod_print.proofs.Fronts.{took_front, took_more}
use Rattle.cod_tool.specs.Planned.{home_line}
use Rattle.cod_shell.proofs.Texts.{texts_split, texts_more}
use Rattle.cod_tool.proofs.planning.home_lines.Goals as goal

pub returns-in_err-home_line-clause-text : goal.returns-in_err-home_line-clause-text
returns-in_err-home_line-clause-text g c =
    let p = err_from_is_err_and c.from_residual.result c.from_residual.ensures.1 in
    let f = home_line c.args.names.now in
    let n = length c.args.names.now.segments in
    let i = c.loop-seg.seg in
    rw p.1 (took_front _ _ _ (flat_map f (range_with_len 0 n)) (flat_map f (range_with_len 0 i)) _ (flat_map f (range_with_len (i + 1) (n - (i + 1)))) c.loop-seg.invariant.taken
    c.in_err-home_line.ensures.text (texts_split f n i (omega arith)))

pub loop-seg-preserved : goal.loop-seg-preserved
loop-seg-preserved g c = record {
  taken = rw (texts_more (home_line c.args.names.now) c.loop-seg.seg) (took_more _ _ _ _ _ c.loop-seg.invariant.taken c.in_ok-home_line.ensures.text);
  same = c.in_ok-home_line.ensures.cause.kept ∙ c.loop-seg.invariant.same;
}
