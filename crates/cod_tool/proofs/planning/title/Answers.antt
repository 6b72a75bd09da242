use Rattle.std.proofs.Common.{◌++◌, codes, refl}
use Rattle.std.proofs.lemmas.Result.{err_from_is_err_and}
use Rattle.cod_print.proofs.Fronts.{front_of, puts_behind}
use Rattle.cod_tool.proofs.planning.title.Goals as goal

pub returns-in_err-text-clause-text : goal.returns-in_err-text-clause-text
returns-in_err-text-clause-text g c =
    let p = err_from_is_err_and c.from_residual.result c.from_residual.ensures.1 in
    rw p.1 (front_of _ _ (codes "plan " ++ c.args.name.now) (codes "plan ") c.args.name.now refl c.in_err-text.ensures.text)

pub returns-clause-text : goal.returns-clause-text
returns-clause-text g c = puts_behind c.text-2.result _ _ _ (codes "plan ") c.args.name.now c.in_ok-text.ensures.text c.text-2.ensures.text
