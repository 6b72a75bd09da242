use Rattle.std.proofs.Common.{ℕ, ◌++◌, List, [], ◌∷◌, codes, decimal, sym}
use Rattle.std.specs.List.{flat_map, range_with_len}
use Rattle.std.proofs.lemmas.Result.{err_from_is_err_and}
use Rattle.cod_types.specs.Columns.{home_of}
use Rattle.cod_text.specs.Printed.{segment_word}
use Rattle.cod_print.proofs.Fronts.{front_of, took_front, puts_behind, puts_same}
use Rattle.cod_tool.proofs.Plans.{home_parts}
use Rattle.cod_tool.proofs.planning.home_line.Goals as goal

pub returns-in_err-title-clause-text : goal.returns-in_err-title-clause-text
returns-in_err-title-clause-text g c =
    let p = err_from_is_err_and c.from_residual.result c.from_residual.ensures.1 in
    let h = c.in_err-title.ensures.text in
    rw p.1 (front_of _ _ _ (codes "plan " ++ segment_word c.args.names.now c.args.seg) _ (home_parts c.args.names.now c.args.seg) (rw (c.as_bytes-name.ensures.value, c.segment_name.ensures) at h))

pub returns-in_err-homes-clause-text : goal.returns-in_err-homes-clause-text
returns-in_err-homes-clause-text g c =
    let p = err_from_is_err_and c.from_residual-in_err-homes.result c.from_residual-in_err-homes.ensures.1 in
    let h = c.in_ok-title.ensures.text in
    rw p.1 (took_front _ _ _ _ (codes "plan " ++ segment_word c.args.names.now c.args.seg) _ _ (rw (c.as_bytes-name.ensures.value, c.segment_name.ensures) at h) c.in_err-homes.ensures.text
    (home_parts c.args.names.now c.args.seg))

pub returns-clause-text : goal.returns-clause-text
returns-clause-text g c =
    let x = c.args.names.now in
    let h = c.in_ok-title.ensures.text in
    let homes : List ℕ = flat_map (λ i. 32 ∷ decimal (home_of c.args.seg i x.nodes)) (range_with_len 0 x.shape.n) in
    puts_same c.text.result _ _ _ _ (sym (home_parts x c.args.seg))
    (puts_behind c.text.result _ _ _ (codes "plan " ++ segment_word x c.args.seg) (homes ++ 10 ∷ []) (rw (c.as_bytes-name.ensures.value, c.segment_name.ensures) at h)
    (puts_behind c.text.result _ _ _ homes (10 ∷ []) c.in_ok-homes.ensures.text c.text.ensures.text))
