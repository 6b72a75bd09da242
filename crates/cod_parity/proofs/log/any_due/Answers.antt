use Rattle.std.proofs.Common.{arith}
use Rattle.cod_parity.proofs.log.any_due.Goals as goal

pub returns : goal.returns
returns c = (
  (λ no. let wrong : ⊥ = cc in absurd wrong),
  (λ due. let past = c.loop-block.invariant due.0 (omega (arith, due.1)) in let wrong : ⊥ = omega (arith, due.2, past) in absurd wrong),
)
