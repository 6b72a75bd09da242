use Rattle.std.proofs.Common.{◌++◌, ◌∙◌, [], ◌∷◌, ap, sym}
use Rattle.std.proofs.lemmas.List.Sums.{fold-append}
use Rattle.cod_text.specs.Summary.{with_entry}
use Rattle.cod_print.proofs.Fronts.{one_done}
use Rattle.cod_text.proofs.tally.Tally.add_chronicle.Goals as goal

pub loop-entry-preserved : goal.loop-entry-preserved
loop-entry-preserved c =
    let i = c.loop-entry.invariant in
    let e = c.in-Some.entry.now in (
      i.0 ++ e ∷ [],
      one_done _ _ _ _ _ i.1 c.in-Some.ensures.steps,
      c.add_entry.ensures ∙ ap (λ t. with_entry t e) i.2 ∙ sym (fold-append with_entry c.args.self.now i.0 (e ∷ [])),
    )
