use Rattle.std.proofs.Common.{◌≡◌, ◌++◌, map, take, drop}
use Rattle.cod_claims.specs.Changes.{made}
use Rattle.cod_claims.proofs.slip.make_each.Given as goal

abbrev pub invariant-loop-delta : goal.invariant-loop-delta
invariant-loop-delta l = l.deltas ≡ map made (take l.delta-index l.initial.deltas) ++ drop l.delta-index l.initial.deltas
