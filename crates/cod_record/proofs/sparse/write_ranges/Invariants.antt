use Rattle.std.proofs.Common.{◌≡◌, ◌+◌, ◌-◌, ◌≤◌, ◌++◌, length, take, drop}
use Rattle.cod_record.specs.Record.{ranges_text}
use Rattle.cod_record.specs.Sparse.{ranges_of}
use Rattle.cod_record.proofs.Lengths.{IsLeft}
use Rattle.cod_record.proofs.sparse.write_ranges.Given as goal

abbrev pub invariant-parts : goal.invariant-parts
invariant-parts l = record {
  left : IsLeft l.off l.at l.len l.bytes;
  room : l.len ≤ length l.into;
  size : length l.into ≡ length l.initial.into;
  count : l.count + length (ranges_of (l.off + l.at) (drop l.at l.bytes)) ≡ length (ranges_of l.off l.bytes);
  text : take l.len l.into ++ ranges_text (ranges_of (l.off + l.at) (drop l.at l.bytes)) ≡ ranges_text (ranges_of l.off l.bytes);
  rest : drop l.len l.into ≡ drop l.len l.initial.into;
}

abbrev pub decreases-parts : goal.decreases-parts
decreases-parts l = length l.bytes - l.at
