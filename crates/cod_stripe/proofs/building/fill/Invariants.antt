use Rattle.std.proofs.Common.{◌≡◌, ◌++◌, List, length}
use Rattle.cod_place.specs.Room.{Room}
use Rattle.cod_place.specs.Rooms.{AddUp, CameFrom}
use Rattle.cod_stripe.specs.Building.{AreNew, frail_below, HomesHaveRoom}
use Rattle.cod_stripe.proofs.Giving.{rooms_in}
use Rattle.cod_stripe.proofs.building.fill.Given as goal

abbrev pub invariant-loop-col : goal.invariant-loop-col
invariant-loop-col g l = record {
  made : AreNew (record { shape = l.g; segment = l.segment.0; nodes = l.nodes; told = g.R.Region.tells }) (frail_below (g.H.Shelf.regions l.shelf).never_fail l.nodes)
      l.columns l.col;
  free : HomesHaveRoom l.g l.segment.0 l.nodes l.col l.pools.free;
  rooms : (rest : List Room) → AddUp l.fn.pools rest → AddUp l.pools (rooms_in l.columns ++ rest);
  came : CameFrom l.pools (rooms_in l.columns);
  capacity : l.pools.capacity ≡ l.fn.pools.capacity;
  nodes : length l.pools.free ≡ l.nodes;
}
