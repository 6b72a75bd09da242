use Rattle.std.proofs.Common.{◌+◌, List, ℕ, take, drop, arith}
use Rattle.std.proofs.lemmas.Result.{err_from_is_err_and}
use Rattle.std.specs.List.{flat_map}
use Rattle.cod_text.specs.declared.count.Count.{Count}
use Rattle.cod_text.specs.Summary.{count_text}
use Rattle.cod_print.proofs.Fronts.{took_front, flat_map_split}
use Rattle.cod_text.proofs.summing.numbers.Goals as goal

pub returns-in_err-number-clause-text : goal.returns-in_err-number-clause-text
returns-in_err-number-clause-text g c =
    let p = err_from_is_err_and c.from_residual.result c.from_residual.ensures.1 in
    let h = c.in_err-number.ensures.text in
    let f : Count → List ℕ = λ d. count_text (d.0.now, d.1) in
    let cs = c.args.counts.now in
    let i = c.loop-count.count-index in
    rw (p.1)
    (took_front _ _ _ (flat_map f cs) (flat_map f (take i cs)) _ (flat_map f (drop (i + 1) cs)) c.loop-count.invariant.taken h (flat_map_split f cs i _ (omega arith)))
