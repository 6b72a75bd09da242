use Rattle.std.proofs.Common.{◌≡◌, List, [], length}
use Rattle.cod_board.specs.Kills.{Keeps}
use Rattle.cod_place.specs.Room.{Room}
use Rattle.cod_segment.specs.Events.{Balances}
use Rattle.cod_drain.proofs.Trials.{IsTrying, unbroken}
use Rattle.cod_drain.proofs.trying.copy_away.Given as goal

abbrev pub invariant-places : goal.invariant-places
invariant-places g l = record {
  trying : IsTrying l.plan.col l.initial.clock l.clock l.broken l.initial.segment l.segment;
  bench : l.bench ≡ l.initial.bench;
  rooms : (rest : List Room) → g.P.Pools.Came l.initial.pools rest → g.P.Pools.Came l.pools rest;
  balance : Balances (g.P.Pools.free l.initial.pools) (g.P.Pools.free l.pools) [] [];
  nodes : g.P.Pools.nodes l.pools ≡ g.P.Pools.nodes l.initial.pools;
  ready : g.P.Pools.ready l.pools;
  same : g.P.Pools.same l.initial.pools l.pools;
  known : length (g.B.Board.kills l.board) ≡ length (g.B.Board.kills l.initial.board);
  keeps : Keeps (g.B.Board.kills l.initial.board) (g.B.Board.kills l.board);
  able : g.B.Board.ready l.board;
  borrowed : g.B.Board.same l.initial.board l.board;
}

abbrev pub decreases-places : goal.decreases-places
decreases-places g l = unbroken l.broken
