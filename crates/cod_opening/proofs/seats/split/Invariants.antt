use Rattle.std.proofs.Common.{◌≡◌, ◌+◌, ◌<◌, ℕ, List, length}
use Rattle.cod_seg.specs.Seg.{Seg}
use Rattle.cod_opening.specs.Opening.{AreSeats, left_from}
use Rattle.cod_opening.proofs.Splitting.{SplitUpTo}
use Rattle.cod_opening.proofs.seats.split.Given as goal

abbrev pub invariant-turns : goal.invariant-turns
invariant-turns g l = record {
  so : (segs : List Seg) (n : ℕ) → n + 1 < 65536 → AreSeats l.turns segs (left_from n) l.fn.firsts.items → SplitUpTo l.turns segs n l.at l.firsts.items l.seats.items;
  count : l.count ≡ length l.turns;
}
