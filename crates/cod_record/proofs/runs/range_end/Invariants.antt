use Rattle.std.proofs.Common.{◌≢◌, ◌-◌, ◌<◌, ◌≤◌, length, slice_index}
use Rattle.cod_record.proofs.Zeros.{Joins}
use Rattle.cod_record.proofs.runs.range_end.Given as goal

abbrev pub invariant-bytes : goal.invariant-bytes
invariant-bytes l = record {
  low : l.start ≤ l.last;
  high : l.last < length l.bytes;
  some : slice_index l.bytes l.last ≢ 0;
  joins : Joins l.bytes l.start l.last;
}

abbrev pub decreases-bytes : goal.decreases-bytes
decreases-bytes l = length l.bytes - l.last
