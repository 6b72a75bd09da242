use Rattle.std.proofs.Common.{◌<◌, ◌^◌, arith}
use Rattle.std.proofs.lemmas.Nat.{mul-lt}
use Rattle.cod_scenario.proofs.weight.line_weight.Goals as goal

pub overflow_mul-result : goal.overflow_mul-result
overflow_mul-result c =
    let a : c.from.result < 2 ^ 8 = omega (arith, c.from.ensures) in
    let p = mul-lt _ _ _ _ a c.region.ensures.bound in omega (arith, p)

pub overflow_mul-result-in-Care-2 : goal.overflow_mul-result-in-Care-2
overflow_mul-result-in-Care-2 c =
    let a : c.from-in-Care.result < 2 ^ 32 = omega (arith, c.from-in-Care.ensures) in
    let b : c.from-in-Care-2.result < 2 ^ 32 = omega (arith, c.from-in-Care-2.ensures) in
    let p = mul-lt _ _ _ _ (mul-lt _ _ _ _ a b) c.region-in-Care.ensures.bound in omega (arith, p)
