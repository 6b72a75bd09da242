use Rattle.std.proofs.Common.{◌≡◌, ℕ, length}
use Rattle.cod_seg.specs.Laws.{up_below}
use Rattle.cod_reading.specs.Reads.{Reads}
use Rattle.cod_reading.proofs.parts.read_part.Given as goal

abbrev pub invariant-tries : goal.invariant-tries
invariant-tries g l = record {
  reads : Reads (λ (i : ℕ). 0) l.fn.clock l.clock l.fn.segment l.segment;
  bench : l.bench ≡ l.fn.bench;
  long : length l.into ≡ length l.fn.into;
}

abbrev pub decreases-tries : goal.decreases-tries
decreases-tries g l = up_below l.segment.site.shape.n l.segment.cols
