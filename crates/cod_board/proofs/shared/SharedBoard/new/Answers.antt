use Rattle.std.proofs.Common.{◌<◌, ℕ, List, [], length, sym, ap, ◌∙◌, subst}
use Rattle.atomic_table.specs.Table.{opening}
use Rattle.cod_board.specs.Words.{Kept, first}
use Rattle.cod_board.proofs.Keeps.{starts, first_some}
use Rattle.cod_board.proofs.shared.SharedBoard.new.Goals as goal

pub of_words-requires : goal.of_words-requires
of_words-requires c =
    let ws = c.as_slice.ensures.value ∙ c.in_ok-words.ensures.items_if_clones_equal (λ y e. e) in
    let n = c.len.ensures ∙ c.in_ok-words.ensures.len in
    subst (λ (z : ℕ × List ℕ). Kept z.0 (opening z.1 [] first)) (λ i. (sym n i, sym ws i)) (starts c.args.nodes)

pub invariant_of-result-in-Ok : goal.invariant_of-result-in-Ok
invariant_of-result-in-Ok c = (ap (λ m. m.1) c.in-Ok.ensures.4, subst (λ m. 0 < length m.0.numbers) (sym c.in-Ok.ensures.4) first_some)
