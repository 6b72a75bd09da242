use Rattle.std.proofs.Common.{ℕ, ◌<◌, get_or}
use Rattle.cod_chronicle.specs.Said.{clock_of, last_stamp}
use Rattle.cod_seg.specs.Seg.{Seg}
use Rattle.cod_run.proofs.waiting.await_all.Given as goal

abbrev pub invariant-loop-stripe : goal.invariant-loop-stripe
invariant-loop-stripe g l = (k : ℕ) (d : Seg) → k < l.stripe-index → clock_of (get_or l.stripes k d).log < last_stamp
