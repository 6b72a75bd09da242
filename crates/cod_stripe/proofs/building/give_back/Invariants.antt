use Rattle.std.proofs.Common.{◌≡◌, ◌++◌, List, length}
use Rattle.cod_place.specs.Room.{Room}
use Rattle.cod_place.specs.Rooms.{AddUp, CameFrom}
use Rattle.cod_stripe.proofs.Giving.{rooms_in}
use Rattle.cod_stripe.proofs.building.give_back.Given as goal

abbrev pub invariant-columns : goal.invariant-columns
invariant-columns g l = record {
  came : CameFrom l.pools (rooms_in l.columns);
  rooms : (rest : List Room) → AddUp l.fn.pools (rooms_in l.fn.columns ++ rest) → AddUp l.pools (rooms_in l.columns ++ rest);
  capacity : l.pools.capacity ≡ l.fn.pools.capacity;
  nodes : length l.pools.free ≡ length l.fn.pools.free;
}

abbrev pub decreases-columns : goal.decreases-columns
decreases-columns g l = length l.columns
