use Rattle.std.proofs.Common.{◌*◌}
use Rattle.cod_chronicle.specs.Walk.{IsSoonest}
use Rattle.cod_chronicle.proofs.walk.soonest_of_all.Given as goal

abbrev pub invariant-loop-group : goal.invariant-loop-group
invariant-loop-group l = IsSoonest l.rests l.found 0 (l.group * 32)
