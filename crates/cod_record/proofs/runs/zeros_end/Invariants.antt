use Rattle.std.proofs.Common.{◌≡◌, ◌-◌, ◌≤◌, ◌++◌, length, drop, replicate}
use Rattle.cod_record.proofs.runs.zeros_end.Given as goal

abbrev pub invariant-zeros : goal.invariant-zeros
invariant-zeros l = record {
  low : l.at ≤ l.end;
  high : l.end ≤ length l.bytes;
  zeros : drop l.at l.bytes ≡ replicate (l.end - l.at) 0 ++ drop l.end l.bytes;
}

abbrev pub decreases-zeros : goal.decreases-zeros
decreases-zeros l = length l.bytes - l.end
