use Rattle.std.proofs.Common.{◌≡◌, ◌≤◌, length, take}
use Rattle.cod_script.specs.Script.{asks}
use Rattle.cod_tool.proofs.checking.calls.Given as goal

abbrev pub invariant-loop-line : goal.invariant-loop-line
invariant-loop-line l = record {
  calls : l.count ≡ length (asks (take l.line-index l.lines));
  most : l.count ≤ l.line-index;
}
