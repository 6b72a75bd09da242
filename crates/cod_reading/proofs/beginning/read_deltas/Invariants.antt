use Rattle.std.proofs.Common.{◌≡◌, take, false}
use Rattle.cod_chronicle.specs.Said.{is_over}
use Rattle.cod_claims.specs.Slips.{changes_of}
use Rattle.cod_reading.specs.Filling.{IsFilling, parts_in}
use Rattle.cod_reading.specs.Reads.{part_reads, Reads}
use Rattle.cod_reading.proofs.beginning.read_deltas.Given as goal

abbrev pub invariant-loop-i : goal.invariant-loop-i
invariant-loop-i g l = record {
  reads : Reads (part_reads l.fn.segment.site.shape.k l.fn.segment.cols (take l.i (parts_in (changes_of l.fn.slip)))) l.fn.clock l.clock l.fn.segment l.segment;
  few : is_over l.segment.site l.segment.log ≡ false;
  filling : IsFilling l.fn.segment l.i l.slip;
  same : l.slip ≡ record l.fn.slip { changes = l.slip.changes };
  parts : parts_in (changes_of l.slip) ≡ parts_in (changes_of l.fn.slip);
  bench : l.bench ≡ l.fn.bench;
}
