use Rattle.std.proofs.Common.{◌∷◌, take, drop, arith, ◌+◌, ℕ}
use Rattle.std.proofs.lemmas.Result.{err_from_is_err_and}
use Rattle.std.specs.List.{flat_map}
use Rattle.cod_script.specs.Text.{name_at}
use Rattle.cod_print.proofs.Fronts.{took_front, flat_map_split}
use Rattle.cod_script.proofs.writing.turns.Goals as goal

pub returns-in_err-name-clause-text : goal.returns-in_err-name-clause-text
returns-in_err-name-clause-text g c =
    let p = err_from_is_err_and c.from_residual.result c.from_residual.ensures.1 in
    let h = rw c.client_name.ensures at c.in_err-name.ensures.text in
    let xs = c.args.turns.now in
    let i = c.loop-turn.turn-index in
    rw (p.1) (took_front _ _ _ (flat_map (λ (t : ℕ). 32 ∷ name_at c.args.clients.now t) xs) (flat_map (λ (t : ℕ). 32 ∷ name_at c.args.clients.now t) (take i xs)) _ (flat_map
    (λ (t : ℕ). 32 ∷ name_at c.args.clients.now t) (drop (i + 1) xs)) c.loop-turn.invariant.taken h (flat_map_split (λ (t : ℕ). 32 ∷ name_at c.args.clients.now t) xs i _ (omega arith)))
