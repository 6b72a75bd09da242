use Rattle.std.proofs.Common.{◌≡◌, ◌++◌, List, ℕ, Option, refl}
use Rattle.std.specs.Io.KnownBytes.{append_known}
use Rattle.std.proofs.lemmas.Result.{err_from_is_err_and}
use Rattle.cod_print.specs.Puts.{TakesFront}
use Rattle.cod_print.proofs.Fronts.{front_behind, puts_behind, took_first}
use Rattle.cod_text.proofs.summing.lines.Goals as goal

behind : (old mid new : Option (List ℕ)) (a b : List ℕ) → mid ≡ append_known old a → TakesFront mid new b → TakesFront old new (a ++ b)
behind old mid new a b h t = front_behind old mid new (a ++ b) a b refl h t

pub returns-in_err-main_lines-clause-text : goal.returns-in_err-main_lines-clause-text
returns-in_err-main_lines-clause-text g c =
    let p = err_from_is_err_and c.from_residual.result c.from_residual.ensures.1 in
    rw (p.1) (took_first _ _ _ _ c.in_err-main_lines.ensures.text)

pub returns-in_err-swaps-clause-text : goal.returns-in_err-swaps-clause-text
returns-in_err-swaps-clause-text g c =
    let p = err_from_is_err_and c.from_residual-in_err-swaps.result c.from_residual-in_err-swaps.ensures.1 in
    rw (p.1) (behind _ _ _ _ _ c.in_ok-main_lines.ensures.text
    (took_first _ _ _ _ c.in_err-swaps.ensures.text))

pub returns-in_err-upgrades-clause-text : goal.returns-in_err-upgrades-clause-text
returns-in_err-upgrades-clause-text g c =
    let p = err_from_is_err_and c.from_residual-in_err-upgrades.result c.from_residual-in_err-upgrades.ensures.1 in
    rw (p.1) (behind _ _ _ _ _ c.in_ok-main_lines.ensures.text
    (behind _ _ _ _ _ c.in_ok-swaps.ensures.text
    (took_first _ _ _ _ c.in_err-upgrades.ensures.text)))

pub returns-in_err-drains-clause-text : goal.returns-in_err-drains-clause-text
returns-in_err-drains-clause-text g c =
    let p = err_from_is_err_and c.from_residual-in_err-drains.result c.from_residual-in_err-drains.ensures.1 in
    rw (p.1) (behind _ _ _ _ _ c.in_ok-main_lines.ensures.text
    (behind _ _ _ _ _ c.in_ok-swaps.ensures.text
    (behind _ _ _ _ _ c.in_ok-upgrades.ensures.text
    (took_first _ _ _ _ c.in_err-drains.ensures.text))))

pub returns-clause-text : goal.returns-clause-text
returns-clause-text g c =
    puts_behind _ _ _ _ _ _ c.in_ok-main_lines.ensures.text
    (puts_behind _ _ _ _ _ _ c.in_ok-swaps.ensures.text
    (puts_behind _ _ _ _ _ _ c.in_ok-upgrades.ensures.text
    (puts_behind _ _ _ _ _ _ c.in_ok-drains.ensures.text
    c.text.ensures.text)))
