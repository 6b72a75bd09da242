use Rattle.std.proofs.Common.{◌∷◌, ◌+◌, List, ℕ, take, drop, arith}
use Rattle.std.proofs.lemmas.Result.{err_from_is_err_and}
use Rattle.std.specs.List.{flat_map}
use Rattle.cod_types.specs.declared.reasons.Reason.{Reason}
use Rattle.cod_text.specs.Printed.{reason_word}
use Rattle.cod_print.proofs.Fronts.{took_front, flat_map_split}
use Rattle.cod_text.proofs.lines.reasons.Goals as goal

pub returns-in_err-reason-clause-text : goal.returns-in_err-reason-clause-text
returns-in_err-reason-clause-text g c =
    let p = err_from_is_err_and c.from_residual.result c.from_residual.ensures.1 in
    let h = c.in_err-reason.ensures.text in
    let f : Reason → List ℕ = λ r. 32 ∷ reason_word r in
    let rs = c.args.reasons.now in
    let i = c.loop-r.r-index in
    rw (p.1) (took_front _ _ _ (flat_map f rs) (flat_map f (take i rs)) _ (flat_map f (drop (i + 1) rs)) c.loop-r.invariant.taken h (flat_map_split f rs i _ (omega arith)))
