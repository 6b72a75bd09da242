use Rattle.std.proofs.Common.{◌++◌, [], ◌∷◌, codes, decimal, refl}
use Rattle.std.proofs.lemmas.Result.{err_from_is_err_and}
use Rattle.cod_print.proofs.Fronts.{front_of, puts_behind, puts_same}
use Rattle.cod_shell.specs.Refused.{refusal_text, why_word}
use Rattle.cod_shell.proofs.refusing.print.Goals as goal

pub returns-in_err-numbered-clause-text : goal.returns-in_err-numbered-clause-text
returns-in_err-numbered-clause-text g c =
    let p = err_from_is_err_and c.from_residual.result c.from_residual.ensures.1 in
    rw p.1 (front_of _ _ (refusal_text c.args.line c.args.why) (codes "line " ++ decimal c.args.line) (codes ": " ++ (why_word c.args.why ++ 10 ∷ [])) refl c.in_err-numbered.ensures.text)

pub returns-clause-text : goal.returns-clause-text
returns-clause-text g c =
    puts_behind c.text.result _ _ _ (codes "line " ++ decimal c.args.line) (codes ": " ++ (why_word c.args.why ++ 10 ∷ [])) c.in_ok-numbered.ensures.text
    (puts_same c.text.result _ _ _ _ c.reason.ensures c.text.ensures.text)
