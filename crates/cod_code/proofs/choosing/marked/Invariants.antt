use Rattle.std.proofs.Common.{◌≡◌, ◌≤◌}
use Rattle.cod_code.specs.Choosing.{marked_below}
use Rattle.cod_code.proofs.choosing.marked.Given as goal

abbrev pub invariant-loop-j : goal.invariant-loop-j
invariant-loop-j l = record {
  few : l.count ≤ l.j;
  counted : l.count ≡ marked_below l.marks l.j;
}
