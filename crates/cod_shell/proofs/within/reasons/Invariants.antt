use Rattle.std.proofs.Common.{ℕ, ◌<◌, get_or}
use Rattle.cod_types.specs.declared.reasons.Reason.{Reason}
use Rattle.cod_shell.specs.Numbers.{ReasonFits}
use Rattle.cod_shell.proofs.within.reasons.Given as goal

abbrev pub invariant-loop-r : goal.invariant-loop-r
invariant-loop-r l = (k : ℕ) (d : Reason) → k < l.r-index → ReasonFits (get_or l.reasons k d)
