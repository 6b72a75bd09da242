use Rattle.std.proofs.Common.{◌≡◌, ◌++◌, map, take, drop}
use Rattle.cod_claims.specs.Claimed.{forgotten}
use Rattle.cod_claims.proofs.claims.forget_each.Given as goal

abbrev pub invariant-loop-slot : goal.invariant-loop-slot
invariant-loop-slot l = l.slots ≡ map (forgotten l.col) (take l.slot-index l.initial.slots) ++ drop l.slot-index l.initial.slots
