use Rattle.std.proofs.Common.{List}
use Rattle.cod_seg.specs.Seg.{Seg}
use Rattle.cod_opening.specs.Opening.{ArePasses, IsLeft}
use Rattle.cod_opening.proofs.seats.passes.Given as goal

abbrev pub invariant-callers : goal.invariant-callers
invariant-callers g l = record {
  passes : (segs : List Seg) → IsLeft l.turns segs l.board l.pools.of 0 l.fn.rest → ArePasses l.turns segs l.g l.board l.pools.of l.caller l.list.items;
  left : (segs : List Seg) → IsLeft l.turns segs l.board l.pools.of 0 l.fn.rest → IsLeft l.turns segs l.board l.pools.of l.caller l.rest;
}
