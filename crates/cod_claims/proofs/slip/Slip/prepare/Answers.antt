use Rattle.cod_claims.proofs.Preparing.{prepared_paper}
use Rattle.cod_claims.proofs.slip.Slip.prepare.Goals as goal

pub invariant_of-result : goal.invariant_of-result
invariant_of-result c = prepared_paper c.args.g.now c.args.call _ c.k-most.ensures.within c.in_ok-deltas.ensures
