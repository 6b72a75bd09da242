use Rattle.std.proofs.Common.{◌++◌, [], ◌∷◌, codes, decimal, sym}
use Rattle.std.proofs.lemmas.Result.{err_from_is_err_and}
use Rattle.cod_print.proofs.Fronts.{front_of, took_front, puts_behind, puts_same}
use Rattle.cod_tool.proofs.Rows.{head_parts}
use Rattle.cod_tool.proofs.coding.head.Goals as goal

pub returns-in_err-numbered-clause-text : goal.returns-in_err-numbered-clause-text
returns-in_err-numbered-clause-text g c =
    let p = err_from_is_err_and c.from_residual.result c.from_residual.ensures.1 in
    let n = decimal c.args.code.now.n in
    let k = decimal c.args.code.now.k in
    rw p.1 (front_of _ _ _ (codes "code " ++ n) ((codes " " ++ k) ++ 10 ∷ []) (head_parts n k) c.in_err-numbered.ensures.text)

pub returns-in_err-numbered-2-clause-text : goal.returns-in_err-numbered-2-clause-text
returns-in_err-numbered-2-clause-text g c =
    let p = err_from_is_err_and c.from_residual-in_err-numbered-2.result c.from_residual-in_err-numbered-2.ensures.1 in
    let n = decimal c.args.code.now.n in
    let k = decimal c.args.code.now.k in
    rw p.1 (took_front _ _ _ _ (codes "code " ++ n) (codes " " ++ k) (10 ∷ []) c.in_ok-numbered.ensures.text c.in_err-numbered-2.ensures.text (head_parts n k))

pub returns-clause-text : goal.returns-clause-text
returns-clause-text g c =
    let n = decimal c.args.code.now.n in
    let k = decimal c.args.code.now.k in
    puts_same c.text.result _ _ _ _ (sym (head_parts n k))
    (puts_behind c.text.result _ _ _ (codes "code " ++ n) ((codes " " ++ k) ++ 10 ∷ []) c.in_ok-numbered.ensures.text
    (puts_behind c.text.result _ _ _ (codes " " ++ k) (10 ∷ []) c.in_ok-numbered-2.ensures.text c.text.ensures.text))
