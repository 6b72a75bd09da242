use Rattle.std.proofs.Common.{sym, ◌∙◌, arith}
use Rattle.cod_claims.proofs.Finding.{first_holder_is}
use Rattle.cod_claims.proofs.claims.Claims.who.Goals as goal

pub returns-in-Some-clause-first : goal.returns-in-Some-clause-first
returns-in-Some-clause-first c =
    first_holder_is c.args.wanted c.args.caller.0 c.args.self.now c.loop-block.block c.in-Some.held (omega arith) c.loop-block.invariant
    (sym c.is_wanted.ensures ∙ c.if-is_wanted.true) c.in-Some.ensures.some.0 c.in-Some.ensures.some.1
