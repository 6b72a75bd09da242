use Rattle.std.proofs.Common.{◌∙◌, ℕ, sym, ap, arith}
use Rattle.std.specs.Prelude.{is_some}
use Rattle.cod_claims.specs.Claimed.{claim_at, is_of}
use Rattle.cod_claims.proofs.Finding.{found_first, found_none}
use Rattle.cod_step.proofs.updating.has_claim.Goals as goal

pub returns-then-is_of : goal.returns-then-is_of
returns-then-is_of c =
    sym (ap is_some (found_first (λ (j : ℕ). is_of c.args.caller.0 (claim_at c.args.claims.now j)) 0 16 c.loop-j.j (omega arith) (omega arith)
    (λ k low lt. c.loop-j.invariant k lt) (sym c.is_of.ensures ∙ c.if-is_of.true)))

pub returns : goal.returns
returns c =
    sym (ap is_some (found_none (λ (j : ℕ). is_of c.args.caller.0 (claim_at c.args.claims.now j)) 0 16 (λ m low lt. c.loop-j.invariant m (omega arith))))
