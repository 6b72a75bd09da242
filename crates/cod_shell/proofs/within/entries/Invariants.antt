use Rattle.std.proofs.Common.{◌≡◌, ◌++◌, All, List}
use Rattle.cod_chronicle.specs.declared.entry.Entry.{Entry}
use Rattle.cod_text.specs.Unique.{EntryFits}
use Rattle.cod_shell.proofs.within.entries.Given as goal

abbrev pub invariant-loop-e : goal.invariant-loop-e
invariant-loop-e l = (done : List Entry) × (l.chronicle ≡ done ++ l.e-iterator) × All EntryFits done
