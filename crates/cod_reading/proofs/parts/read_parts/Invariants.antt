use Rattle.std.proofs.Common.{◌≡◌, take, false}
use Rattle.cod_chronicle.specs.Said.{is_over}
use Rattle.cod_reading.specs.Reads.{BringsAll, part_bytes, part_reads, Reads}
use Rattle.cod_reading.proofs.parts.read_parts.Given as goal

abbrev pub invariant-loop-part : goal.invariant-loop-part
invariant-loop-part g l = record {
  reads : Reads (part_reads l.fn.segment.site.shape.k l.fn.segment.cols (take l.part-index l.parts)) l.fn.clock l.clock l.fn.segment l.segment;
  few : is_over l.segment.site l.segment.log ≡ false;
  place : l.at ≡ part_bytes (take l.part-index l.parts);
  front : BringsAll l.fn.segment (take l.part-index l.parts) (take l.at l.into);
  bench : l.bench ≡ l.fn.bench;
}
