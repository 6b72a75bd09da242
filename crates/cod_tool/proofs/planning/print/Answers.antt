use Rattle.std.proofs.Common.{length, refl}
use Rattle.std.specs.List.{flat_map, range_with_len}
use Rattle.std.proofs.lemmas.Result.{err_from_is_err_and}
use Rattle.cod_print.proofs.Fronts.{front_of, puts_behind}
use Rattle.cod_tool.specs.Planned.{first_node_line, home_line, placement_text}
use Rattle.cod_tool.proofs.planning.print.Goals as goal

pub returns-in_err-home_lines-clause-text : goal.returns-in_err-home_lines-clause-text
returns-in_err-home_lines-clause-text g c =
    let p = err_from_is_err_and c.from_residual.result c.from_residual.ensures.1 in
    let x = c.args.names.now in
    rw p.1 (front_of _ _ (placement_text x) (flat_map (home_line x) (range_with_len 0 (length x.segments))) (flat_map (first_node_line x) (range_with_len 0 x.nodes)) refl
    c.in_err-home_lines.ensures.text)

pub returns-clause-text : goal.returns-clause-text
returns-clause-text g c =
    let x = c.args.names.now in
    puts_behind c.node_lines.result _ _ _ (flat_map (home_line x) (range_with_len 0 (length x.segments))) (flat_map (first_node_line x) (range_with_len 0 x.nodes)) c.in_ok-home_lines.ensures.text
    c.node_lines.ensures.text
