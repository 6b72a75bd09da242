use Rattle.std.proofs.Common.{◌≡◌, ◌++◌, map, take, drop}
use Rattle.cod_claims.specs.Claimed.{released}
use Rattle.cod_claims.proofs.claims.release_each.Given as goal

abbrev pub invariant-loop-slot : goal.invariant-loop-slot
invariant-loop-slot l = l.slots ≡ map (released l.caller.0) (take l.slot-index l.initial.slots) ++ drop l.slot-index l.initial.slots
