use Rattle.std.proofs.Common.{◌∷◌, ◌++◌, [], ◌<◌, codes, length, arith}
use Rattle.std.specs.List.{flat_map}
use Rattle.std.proofs.lemmas.Grind.{common_steps}
use Rattle.std.proofs.lemmas.Result.{err_from_is_err_and}
use Rattle.cod_script.specs.Text.{name_at}
use Rattle.cod_print.proofs.Fronts.{took_first, took_behind, puts_behind}
use Rattle.cod_script.proofs.Spacing.{schedule_parts}
use Rattle.cod_script.proofs.writing.schedule.Goals as goal

pub returns-in_err-text-clause-text : goal.returns-in_err-text-clause-text
returns-in_err-text-clause-text g c =
    let p = err_from_is_err_and c.from_residual.result c.from_residual.ensures.1 in
    let ts = c.args.names.now in
    let some : 0 < length ts = grind (arith, common_steps) in
    rw (p.1, schedule_parts c.args.clients.now ts some) (took_first _ _ (codes "schedule") (flat_map (λ t. 32 ∷ name_at c.args.clients.now t) ts ++ 10 ∷ []) c.in_err-text.ensures.text)

pub returns-in_err-turns-clause-text : goal.returns-in_err-turns-clause-text
returns-in_err-turns-clause-text g c =
    let p = err_from_is_err_and c.from_residual-in_err-turns.result c.from_residual-in_err-turns.ensures.1 in
    let ts = c.args.names.now in
    let some : 0 < length ts = grind (arith, common_steps) in
    rw (p.1, schedule_parts c.args.clients.now ts some) (took_behind _ _ _ (codes "schedule") (flat_map (λ t. 32 ∷ name_at c.args.clients.now t) ts ++ 10 ∷ []) c.in_ok-text.ensures.text
    (took_first _ _ (flat_map (λ t. 32 ∷ name_at c.args.clients.now t) ts) (10 ∷ []) c.in_err-turns.ensures.text))

pub returns-clause-text : goal.returns-clause-text
returns-clause-text g c =
    let ts = c.args.names.now in
    let some : 0 < length ts = grind (arith, common_steps) in
    rw (schedule_parts c.args.clients.now ts some) (puts_behind c.text-2.result _ _ _ (codes "schedule") (flat_map (λ t. 32 ∷ name_at c.args.clients.now t) ts ++ 10 ∷ []) c.in_ok-text.ensures.text
    (puts_behind c.text-2.result _ _ _ (flat_map (λ t. 32 ∷ name_at c.args.clients.now t) ts) (10 ∷ []) c.in_ok-turns.ensures.text c.text-2.ensures.text))
