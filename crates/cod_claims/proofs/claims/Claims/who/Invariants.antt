use Rattle.std.proofs.Common.{◌≡◌, ◌<◌, ℕ, false}
use Rattle.cod_claims.specs.Claimed.{is_contested}
use Rattle.cod_claims.proofs.claims.Claims.who.Given as goal

abbrev pub invariant-loop-block : goal.invariant-loop-block
invariant-loop-block l = (k : ℕ) → k < l.block → is_contested l.wanted l.caller.0 l.self k ≡ false
