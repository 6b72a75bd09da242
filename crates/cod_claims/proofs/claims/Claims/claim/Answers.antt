use Rattle.std.proofs.Common.{arith}
use Rattle.cod_claims.proofs.Preparing.{paper_changes}
use Rattle.cod_claims.proofs.Claiming.{claims_are, only_none}
use Rattle.cod_claims.proofs.claims.Claims.claim.Goals as goal

pub claim_each-requires : goal.claim_each-requires
claim_each-requires c =
    let paper = paper_changes c.args.slip.now.call c.args.slip.now.changes c.take_deltas-deltas.ensures.are c.requires.call c.requires.changes in
    rw c.take_deltas-deltas.ensures.deltas (λ i d lt. let at = paper.1.1.blocks i d lt in omega (arith, c.self.invariant.blocks, at))

pub invariant_of-self : goal.invariant_of-self
invariant_of-self c =
    let paper = paper_changes c.args.slip.now.call c.args.slip.now.changes c.take_deltas-deltas.ensures.are c.requires.call c.requires.changes in
    rw (c.claim_each.ensures, c.take_deltas-deltas.ensures.deltas)
    (claims_are c.args.caller c.args.number paper.0 _ c.self.inside.slots paper.1.1.blocks paper.1.1.same paper.1.1.inside
    (only_none c.args.caller.0 c.args.number paper.0 c.self.inside.slots (rw c.self.view_is c.requires.none)) c.self.invariant)
