use Rattle.std.proofs.Common.{◌≤◌, length}
use Rattle.cod_record.proofs.Reading_back.{GoesOn, IsPart}
use Rattle.cod_record.proofs.any.read_sparse.Given as goal

-- what is left to be read and what was read are the whole, both ways
abbrev pub invariant-spans : goal.invariant-spans
invariant-spans l = record {
  low : 13 ≤ l.at;
  high : l.at ≤ length l.from;
  goes_on : GoesOn l.from l.count l.at l.least l.left;
  is_part : IsPart l.from l.count l.at l.least l.left;
}

abbrev pub decreases-spans : goal.decreases-spans
decreases-spans l = l.left
