use Rattle.std.proofs.Common.{◌≡◌, length}
use Rattle.std.specs.Prelude.{vec_capacity}
use Rattle.cod_stripe.specs.Sharing.{Without}
use Rattle.cod_homes.specs.Building.{all_rooms}
use Rattle.cod_closing.specs.Closing.{AreReleased}
use Rattle.cod_closing.proofs.closing.close_turns.Given as goal

abbrev pub invariant-turns : goal.invariant-turns
invariant-turns g l = record {
  size : length l.closed.items ≡ length l.yielded;
  room : vec_capacity l.closed ≡ vec_capacity l.fn.closed;
  released : AreReleased l.fn.seats.items l.closed.items;
  rooms : Without (all_rooms l.closed.items) l.pool_seat l.fn.pool_seat;
}
