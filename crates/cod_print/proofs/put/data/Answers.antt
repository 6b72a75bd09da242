use Rattle.std.proofs.Common.{◌≡◌, ◌++◌, ◌∷◌, [], length, codes, decimal, sym, ◌∙◌, true}
use Rattle.std.specs.Prelude.{slice_index}
use Rattle.std.proofs.lemmas.Result.{err_from_is_err_and}
use Rattle.hex.specs.Hex.{encode_lower}
use Rattle.cod_print.specs.Pieces.{is_repeated}
use Rattle.cod_print.proofs.Fronts.{took_first, took_behind, puts_behind, repeated_word}
use Rattle.cod_print.proofs.put.data.Goals as goal

pub returns-in_err-digits-clause-text : goal.returns-in_err-digits-clause-text
returns-in_err-digits-clause-text g c =
    let bytes = c.args.bytes.now in
    let p = err_from_is_err_and c.from_residual.result c.from_residual.ensures.1 in
    let same : is_repeated bytes ≡ true = sym c.is_same.ensures ∙ c.if-not-is_same.false in
    rw (p.1, repeated_word bytes same) (took_first _ _ (encode_lower (slice_index bytes 0 ∷ [])) (codes "*" ++ decimal (length bytes)) c.in_err-digits.ensures.text)

pub returns-in_err-text-clause-text : goal.returns-in_err-text-clause-text
returns-in_err-text-clause-text g c =
    let bytes = c.args.bytes.now in
    let p = err_from_is_err_and c.from_residual-in_err-text.result c.from_residual-in_err-text.ensures.1 in
    let same : is_repeated bytes ≡ true = sym c.is_same.ensures ∙ c.if-not-is_same.false in
    rw (p.1, repeated_word bytes same) (took_behind _ _ _ (encode_lower (slice_index bytes 0 ∷ [])) (codes "*" ++ decimal (length bytes)) c.in_ok-digits.ensures.text
    (took_first _ _ (codes "*") (decimal (length bytes)) c.in_err-text.ensures.text))

pub returns-clause-text : goal.returns-clause-text
returns-clause-text g c =
    let bytes = c.args.bytes.now in
    let same : is_repeated bytes ≡ true = sym c.is_same.ensures ∙ c.if-not-is_same.false in
    rw (repeated_word bytes same) (puts_behind c.number.result _ _ _ (encode_lower (slice_index bytes 0 ∷ [])) (codes "*" ++ decimal (length bytes)) c.in_ok-digits.ensures.text
    (puts_behind c.number.result _ _ _ (codes "*") (decimal (length bytes)) c.in_ok-text.ensures.text c.number.ensures.text))
