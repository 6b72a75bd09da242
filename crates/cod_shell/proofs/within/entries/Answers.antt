use Rattle.std.proofs.Common.{◌++◌, ◌∷◌, []}
use Rattle.std.proofs.lemmas.List.Elements.{All-push}
use Rattle.cod_print.proofs.Fronts.{one_done}
use Rattle.cod_text.specs.Unique.{EntryFits}
use Rattle.cod_shell.proofs.within.entries.Goals as goal

pub loop-e-preserved : goal.loop-e-preserved
loop-e-preserved c =
    let i = c.loop-e.invariant in
    (i.0 ++ c.in-Some.e.now ∷ [], one_done _ _ _ _ _ i.1 c.in-Some.ensures.steps, All-push EntryFits i.0 c.in-Some.e.now i.2 c.entry.ensures)
