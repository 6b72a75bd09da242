use Rattle.std.proofs.Common.{◌≤◌}
use Rattle.cod_recovery.specs.Sweeping.{IsSweeping}
use Rattle.cod_recovery.proofs.sweeping.sweep_columns.Given as goal

abbrev pub invariant-loop-col : goal.invariant-loop-col
invariant-loop-col g l =
    IsSweeping (g.B.Board.kills l.initial.board) (g.B.Board.kills l.board) l.col l.initial.clock l.clock l.initial.segment l.segment
    × g.B.Board.ready l.board
    × g.B.Board.same l.initial.board l.board
    × (l.col ≤ l.col-end)
