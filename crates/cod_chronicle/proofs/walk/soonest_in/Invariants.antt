use Rattle.cod_chronicle.specs.Walk.{IsSoonest}
use Rattle.cod_chronicle.proofs.walk.soonest_in.Given as goal

abbrev pub invariant-loop-i : goal.invariant-loop-i
invariant-loop-i l = IsSoonest l.rests l.soonest l.from l.i
