use Rattle.std.proofs.Common.{◌++◌, List, ℕ, [], ◌∷◌, decimal, refl}
use Rattle.std.proofs.lemmas.Result.{err_from_is_err_and}
use Rattle.cod_print.proofs.Fronts.{front_of, front_behind, took_front, puts_behind}
use Rattle.cod_shell.proofs.pieces.counts.Goals as goal

pub returns-in_err-numbered-clause-text : goal.returns-in_err-numbered-clause-text
returns-in_err-numbered-clause-text g c =
    let p = err_from_is_err_and c.from_residual.result c.from_residual.ensures.1 in
    let a : List ℕ = c.args.first.front.now ++ decimal c.args.first.number in
    let b : List ℕ = c.args.second.front.now ++ decimal c.args.second.number in
    let d : List ℕ = c.args.third.front.now ++ decimal c.args.third.number in
    rw p.1 (front_of _ _ (a ++ (b ++ (d ++ 10 ∷ []))) a (b ++ (d ++ 10 ∷ [])) refl c.in_err-numbered.ensures.text)

pub returns-in_err-numbered-2-clause-text : goal.returns-in_err-numbered-2-clause-text
returns-in_err-numbered-2-clause-text g c =
    let p = err_from_is_err_and c.from_residual-in_err-numbered-2.result c.from_residual-in_err-numbered-2.ensures.1 in
    let a : List ℕ = c.args.first.front.now ++ decimal c.args.first.number in
    let b : List ℕ = c.args.second.front.now ++ decimal c.args.second.number in
    let d : List ℕ = c.args.third.front.now ++ decimal c.args.third.number in
    rw p.1 (took_front _ _ _ (a ++ (b ++ (d ++ 10 ∷ []))) a b (d ++ 10 ∷ []) c.in_ok-numbered.ensures.text c.in_err-numbered-2.ensures.text refl)

pub returns-in_err-numbered-3-clause-text : goal.returns-in_err-numbered-3-clause-text
returns-in_err-numbered-3-clause-text g c =
    let p = err_from_is_err_and c.from_residual-in_err-numbered-3.result c.from_residual-in_err-numbered-3.ensures.1 in
    let a : List ℕ = c.args.first.front.now ++ decimal c.args.first.number in
    let b : List ℕ = c.args.second.front.now ++ decimal c.args.second.number in
    let d : List ℕ = c.args.third.front.now ++ decimal c.args.third.number in
    rw p.1 (front_behind _ _ _ (a ++ (b ++ (d ++ 10 ∷ []))) a (b ++ (d ++ 10 ∷ [])) refl c.in_ok-numbered.ensures.text
    (took_front _ _ _ (b ++ (d ++ 10 ∷ [])) b d (10 ∷ []) c.in_ok-numbered-2.ensures.text c.in_err-numbered-3.ensures.text refl))

pub returns-clause-text : goal.returns-clause-text
returns-clause-text g c =
    let a : List ℕ = c.args.first.front.now ++ decimal c.args.first.number in
    let b : List ℕ = c.args.second.front.now ++ decimal c.args.second.number in
    let d : List ℕ = c.args.third.front.now ++ decimal c.args.third.number in
    puts_behind c.text.result _ _ _ a (b ++ (d ++ 10 ∷ [])) c.in_ok-numbered.ensures.text
    (puts_behind c.text.result _ _ _ b (d ++ 10 ∷ []) c.in_ok-numbered-2.ensures.text (puts_behind c.text.result _ _ _ d (10 ∷ []) c.in_ok-numbered-3.ensures.text c.text.ensures.text))
