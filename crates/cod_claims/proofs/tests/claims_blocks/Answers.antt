use Rattle.cod_claims.proofs.Claiming.{none_at}
use Rattle.cod_claims.proofs.tests.claims_blocks.Goals as goal

pub claim-requires-clause-call : goal.claim-requires-clause-call
claim-requires-clause-call g c = rw c.make_deltas.ensures c.in_ok-slip.ensures.call

pub claim-requires-clause-free : goal.claim-requires-clause-free
claim-requires-clause-free g c = rw c.new-claims.ensures (λ i d lt. none_at 16 _)
