use Rattle.std.proofs.Common.{◌≡◌, ◌+◌, ◌++◌, take, drop}
use Rattle.cod_parity.proofs.log.move_down.Given as goal

abbrev pub invariant-loop-i : goal.invariant-loop-i
invariant-loop-i l = record {
  front : take (l.to + l.i) l.log ≡ take l.to l.initial.log ++ take l.i (drop l.from l.initial.log);
  rest : drop (l.from + l.i) l.log ≡ drop (l.from + l.i) l.initial.log;
}
