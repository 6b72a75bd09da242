use Rattle.std.proofs.Common.{◌≡◌, ◌++◌, List}
use Rattle.cod_place.specs.Room.{Room}
use Rattle.cod_segment.specs.Events.{Balances, rooms_of}
use Rattle.cod_rounds.specs.Rounds.{Tended}
use Rattle.cod_rounds.proofs.ticking.tick_columns.Given as goal

abbrev pub invariant-loop-col : goal.invariant-loop-col
invariant-loop-col g l = record {
  tended : Tended l.col l.fn.segment l.fn.clock l.segment l.clock;
  rooms : (rest : List Room) → g.P.Pools.Came l.fn.pools (rooms_of l.fn.segment ++ rest) → g.P.Pools.Came l.pools (rooms_of l.segment ++ rest);
  balance : Balances (g.P.Pools.free l.fn.pools) (g.P.Pools.free l.pools) (rooms_of l.fn.segment) (rooms_of l.segment);
  pools : (g.P.Pools.nodes l.pools ≡ g.P.Pools.nodes l.fn.pools) × g.P.Pools.ready l.pools × g.P.Pools.same l.fn.pools l.pools;
  bench : l.bench ≡ l.fn.bench;
}
