use Rattle.std.proofs.Common.{◌≡◌, length}
use Rattle.std.specs.List.{range_with_len, sum_by}
use Rattle.cod_script.specs.Owed.{owed}
use Rattle.cod_tool.proofs.checking.all_calls.Given as goal

abbrev pub invariant-loop-client : goal.invariant-loop-client
invariant-loop-client l = l.count ≡ sum_by (λ who. length (owed l.names who)) (range_with_len 0 l.client)
