use Rattle.std.proofs.Common.{◌≡◌, ℕ}
use Rattle.cod_claims.specs.Claimed.{is_wanted}
use Rattle.cod_code.proofs.LowestBits.{below}
use Rattle.cod_step.specs.Next.{touches}
use Rattle.cod_step.proofs.updating.wanted.Given as goal

abbrev pub invariant-loop-j : goal.invariant-loop-j
invariant-loop-j l = (m : ℕ) → is_wanted l.blocks m ≡ below (touches l.g l.off l.len) l.j m
