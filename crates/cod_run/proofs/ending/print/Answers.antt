use Rattle.std.proofs.Common.{map, refl}
use Rattle.std.proofs.lemmas.Result.{err_from_is_err_and}
use Rattle.cod_seg.specs.Seg.{Seg}
use Rattle.cod_print.proofs.Fronts.{front_of, puts_behind}
use Rattle.cod_text.specs.Printed.{chronicle_text}
use Rattle.cod_shell.specs.Lines.{end_lines, run_lines}
use Rattle.cod_run.proofs.ending.print.Goals as goal

pub returns-in_err-chronicle-clause-text : goal.returns-in_err-chronicle-clause-text
returns-in_err-chronicle-clause-text g c =
    let p = err_from_is_err_and c.from_residual.result c.from_residual.ensures.1 in
    let x = c.args.names.now in
    let segs = c.args.stripes.now in
    rw p.1 (front_of _ _ (run_lines x c.args.board.now segs) (chronicle_text x (map (λ (t : Seg). t.log) segs)) (end_lines x c.args.board.now segs) refl c.in_err-chronicle.ensures.text)

pub returns-clause-text : goal.returns-clause-text
returns-clause-text g c =
    let x = c.args.names.now in
    let segs = c.args.stripes.now in
    puts_behind c.ends.result _ _ _ (chronicle_text x (map (λ (t : Seg). t.log) segs)) (end_lines x c.args.board.now segs) c.in_ok-chronicle.ensures.text c.ends.ensures.text
