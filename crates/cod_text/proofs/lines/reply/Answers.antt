use Rattle.std.proofs.Common.{codes, map}
use Rattle.std.proofs.lemmas.Result.{err_from_is_err_and}
use Rattle.cod_print.specs.Pieces.{spaced}
use Rattle.cod_text.specs.Printed.{reason_word}
use Rattle.cod_print.proofs.Fronts.{took_first, puts_behind}
use Rattle.cod_text.proofs.Spacing.{reasons_spaced}
use Rattle.cod_text.proofs.lines.reply.Goals as goal

pub returns-in_err-text-in-NoSpare-clause-text : goal.returns-in_err-text-in-NoSpare-clause-text
returns-in_err-text-in-NoSpare-clause-text g c =
    let p = err_from_is_err_and c.from_residual.result c.from_residual.ensures.1 in
    rw (p.1, c.in-NoSpare.is) (took_first _ _ (codes " -> nospare") (spaced (map (λ r. reason_word r) c.in-NoSpare.why)) c.in_err-text-in-NoSpare.ensures.text)

pub returns-in-Rebuilt-clause-text : goal.returns-in-Rebuilt-clause-text
returns-in-Rebuilt-clause-text g c = rw c.in-Rebuilt.is c.numbered.ensures.text

pub returns-in_ok-text-in-NoSpare-clause-text : goal.returns-in_ok-text-in-NoSpare-clause-text
returns-in_ok-text-in-NoSpare-clause-text g c =
    let s = c.as_slice-in-NoSpare.ensures.same in
    let h = c.reasons.ensures.text in
    rw c.in-NoSpare.is (puts_behind _ _ _ _ (codes " -> nospare") (spaced (map (λ r. reason_word r) c.in-NoSpare.why)) c.in_ok-text-in-NoSpare.ensures.text (rw (s, reasons_spaced) at h))

pub returns-in-Differs-clause-text : goal.returns-in-Differs-clause-text
returns-in-Differs-clause-text g c = (let s = c.as_slice-in-Differs.ensures.same in let h = c.pieces-in-Differs.ensures.text in rw c.in-Differs.is (rw s at h))

pub returns-in-Shifted-clause-text : goal.returns-in-Shifted-clause-text
returns-in-Shifted-clause-text g c = rw c.in-Shifted.is c.numbered-in-Shifted.ensures.text
