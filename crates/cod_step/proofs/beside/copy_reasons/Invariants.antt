use Rattle.std.proofs.Common.{◌≡◌, take}
use Rattle.cod_step.proofs.beside.copy_reasons.Given as goal

abbrev pub invariant-loop-reason : goal.invariant-loop-reason
invariant-loop-reason l = l.copy ≡ take l.reason-index l.reasons
