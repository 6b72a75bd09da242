use Rattle.std.proofs.Common.{refl}
use Rattle.std.specs.List.{flat_map}
use Rattle.std.proofs.lemmas.Result.{err_from_is_err_and}
use Rattle.cod_print.proofs.Fronts.{front_of, puts_behind}
use Rattle.cod_shell.specs.Lines.{columns_text, end_lines, node_lines}
use Rattle.cod_run.proofs.ending.ends.Goals as goal

pub returns-in_err-layouts-clause-text : goal.returns-in_err-layouts-clause-text
returns-in_err-layouts-clause-text g c =
    let p = err_from_is_err_and c.from_residual.result c.from_residual.ensures.1 in
    let x = c.args.names.now in
    rw p.1 (front_of _ _ (end_lines x c.args.board.now c.args.stripes.now) (flat_map (columns_text x) c.args.stripes.now) (node_lines x c.args.board.now c.args.stripes.now) refl
    c.in_err-layouts.ensures.text)

pub returns-clause-text : goal.returns-clause-text
returns-clause-text g c =
    let x = c.args.names.now in
    puts_behind c.node_lines.result _ _ _ (flat_map (columns_text x) c.args.stripes.now) (node_lines x c.args.board.now c.args.stripes.now) c.in_ok-layouts.ensures.text
    (c.node_lines.ensures.text c.args.stripes.now c.requires.sums)
