use Rattle.std.proofs.Common.{◌≡◌, ◌++◌, ◌∙◌, ap, sym, take, drop, List, ℕ}
use Rattle.std.proofs.lemmas.List.{take-append-drop, take_rest}
use Rattle.std.proofs.Common.{append_assoc}
use Rattle.cod_print.proofs.Fronts.{took_more}
use Rattle.cod_print.proofs.put.text.Goals as goal

-- the rest after n more bytes
behind : (all front rest : List ℕ) (n : ℕ) → all ≡ front ++ rest → all ≡ (front ++ take n rest) ++ drop n rest
behind all front rest n is = is ∙ ap (λ (l : List ℕ). front ++ l) (sym (take-append-drop n rest)) ∙ sym (append_assoc front (take n rest) (drop n rest))

pub rest-preserved : goal.rest-preserved
rest-preserved g c =
    let i = c.rest.invariant in (
      i.0 ++ take c.in_ok-n.n c.rest.rest.now,
      simp take_rest (behind _ i.0 c.rest.rest.now c.in_ok-n.n i.1),
      took_more _ _ _ _ _ i.2 c.in_ok-n.ensures.bytes,
      c.in_ok-n.ensures.cause.kept ∙ i.3,
    )
