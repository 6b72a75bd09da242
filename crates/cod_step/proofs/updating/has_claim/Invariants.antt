use Rattle.std.proofs.Common.{◌≡◌, ◌<◌, ℕ, false}
use Rattle.cod_claims.specs.Claimed.{claim_at, is_of}
use Rattle.cod_step.proofs.updating.has_claim.Given as goal

abbrev pub invariant-loop-j : goal.invariant-loop-j
invariant-loop-j l = (m : ℕ) → m < l.j → is_of l.caller.0 (claim_at l.claims m) ≡ false
