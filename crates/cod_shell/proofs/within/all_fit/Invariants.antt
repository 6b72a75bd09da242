use Rattle.std.proofs.Common.{ℕ, ◌<◌, All, get_or}
use Rattle.cod_text.specs.Unique.{EntryFits}
use Rattle.cod_shell.proofs.within.all_fit.Given as goal

abbrev pub invariant-loop-value : goal.invariant-loop-value
invariant-loop-value g l = (k : ℕ) (d : _) → k < l.value-index → All EntryFits (g.T.Stands.entries (get_or l.all k d))
