use Rattle.std.proofs.Common.{◌≡◌, ◌++◌, List}
use Rattle.std.specs.List.{fold}
use Rattle.cod_text.specs.Summary.{with_entry}
use Rattle.cod_text.proofs.tally.Tally.add_chronicle.Given as goal

abbrev pub invariant-loop-entry : goal.invariant-loop-entry
invariant-loop-entry l = (done : List _) × (l.chronicle ≡ done ++ l.entry-iterator) × (l.self ≡ fold with_entry l.fn.self done)
