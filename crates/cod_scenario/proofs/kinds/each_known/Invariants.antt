use Rattle.std.proofs.Common.{◌≡◌, map, drop}
use Rattle.cod_scenario.specs.Judge.{each_known}
use Rattle.cod_scenario.proofs.EachKnown.{with_front}
use Rattle.cod_scenario.proofs.kinds.each_known.Given as goal

abbrev pub invariant-loop-w : goal.invariant-loop-w
invariant-loop-w l = with_front l.turns.items (each_known l.names (drop l.w-index (map (λ w. w.now) l.ws))) ≡ each_known l.names (map (λ w. w.now) l.ws)
