use Rattle.std.proofs.Common.{◌≡◌, length}
use Rattle.cod_opening.specs.Opening.{AreSeats, left_from}
use Rattle.cod_opening.proofs.sharing.turns.Given as goal

abbrev pub invariant-stripes : goal.invariant-stripes
invariant-stripes g l = record {
  count : length l.turns.items ≡ length l.yielded;
  are : AreSeats l.turns.items l.yielded (left_from 0) l.seats.items;
}
