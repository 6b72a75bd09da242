use Rattle.std.proofs.Common.{ℕ, ◌++◌, List, [], ◌∷◌, decimal, sym}
use Rattle.std.specs.List.{flat_map, range_with_len}
use Rattle.std.proofs.lemmas.Result.{err_from_is_err_and}
use Rattle.cod_print.proofs.Fronts.{front_of, took_front, puts_behind, puts_same}
use Rattle.cod_tool.specs.Coefficients.{coefficient_word}
use Rattle.cod_tool.proofs.Rows.{row_parts}
use Rattle.cod_tool.proofs.coding.row.Goals as goal

pub returns-in_err-numbered-clause-text : goal.returns-in_err-numbered-clause-text
returns-in_err-numbered-clause-text g c =
    let p = err_from_is_err_and c.from_residual.result c.from_residual.ensures.1 in
    rw p.1 (front_of _ _ _ _ _ (row_parts c.args.code.now.k c.args.column) c.in_err-numbered.ensures.text)

pub returns-in_err-coefficients-clause-text : goal.returns-in_err-coefficients-clause-text
returns-in_err-coefficients-clause-text g c =
    let p = err_from_is_err_and c.from_residual-in_err-coefficients.result c.from_residual-in_err-coefficients.ensures.1 in
    rw p.1 (took_front _ _ _ _ _ _ _ c.in_ok-numbered.ensures.text c.in_err-coefficients.ensures.text (row_parts c.args.code.now.k c.args.column))

pub returns-clause-text : goal.returns-clause-text
returns-clause-text g c =
    let k = c.args.code.now.k in
    let words : List ℕ = flat_map (λ j. 32 ∷ coefficient_word k c.args.column j) (range_with_len 0 k) in
    puts_same c.text.result _ _ _ _ (sym (row_parts k c.args.column))
    (puts_behind c.text.result _ _ _ (decimal c.args.column) (words ++ 10 ∷ []) c.in_ok-numbered.ensures.text
    (puts_behind c.text.result _ _ _ words (10 ∷ []) c.in_ok-coefficients.ensures.text c.text.ensures.text))
