use Rattle.std.proofs.Common.{◌-◌, [], ◌∷◌, codes, decimal, refl}
use Rattle.std.specs.List.{flat_map, range_with_len}
use Rattle.std.proofs.lemmas.Result.{err_from_is_err_and}
use Rattle.cod_text.specs.Printed.{line_of}
use Rattle.cod_print.proofs.Fronts.{front_of, puts_behind}
use Rattle.cod_tool.specs.Coefficients.{coefficients_text, row_text}
use Rattle.cod_tool.proofs.coding.print.Goals as goal

pub returns-in_err-head-clause-text : goal.returns-in_err-head-clause-text
returns-in_err-head-clause-text g c =
    let p = err_from_is_err_and c.from_residual.result c.from_residual.ensures.1 in
    let n = c.args.code.now.n in
    let k = c.args.code.now.k in
    rw p.1 (front_of _ _ (coefficients_text n k) (line_of (codes "code" ∷ decimal n ∷ decimal k ∷ [])) (flat_map (row_text k) (range_with_len k (n - k))) refl c.in_err-head.ensures.text)

pub returns-clause-text : goal.returns-clause-text
returns-clause-text g c =
    let n = c.args.code.now.n in
    let k = c.args.code.now.k in
    puts_behind c.rows.result _ _ _ (line_of (codes "code" ∷ decimal n ∷ decimal k ∷ [])) (flat_map (row_text k) (range_with_len k (n - k))) c.in_ok-head.ensures.text c.rows.ensures.text
