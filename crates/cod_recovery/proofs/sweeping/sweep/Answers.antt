use Rattle.std.proofs.Common.{ap, ◌∙◌}
use Rattle.cod_chronicle.specs.Said.{numbers_by}
use Rattle.cod_seg.specs.Seg.{Seg}
use Rattle.cod_recovery.proofs.Sweeps.{all_swept, swept_is_sound}
use Rattle.cod_recovery.proofs.sweeping.sweep.Goals as goal

pub returns-clause-sound : goal.returns-clause-sound
returns-clause-sound g c =
    swept_is_sound _ c.sweep_columns.new.segment c.sweep_target.new.rebuild (g.B.Board.kills c.sweep_columns.new.board) (g.B.Board.kills c.sweep_target.new.board) c.segment.view_is
    c.sweep_columns.ensures.runs.sound c.sweep_target.ensures.swept

pub returns-clause-makes : goal.returns-clause-makes
returns-clause-makes g c = λ w r setting known seen.
    all_swept w r c.args.clock.now c.sweep_columns.new.clock c.args.segment.now _ c.sweep_columns.new.segment c.sweep_target.new.rebuild (g.B.Board.kills c.args.board.now)
    (g.B.Board.kills c.sweep_columns.new.board) (g.B.Board.kills c.sweep_target.new.board) c.segment.view_is c.sweep_columns.ensures.runs
    (c.sweep_columns.ensures.swept (g.B.Board.kills c.sweep_target.new.board) w r c.sweep_target.ensures.board.1 setting known seen) c.sweep_columns.ensures.board.1 known seen
    c.sweep_target.ensures.swept

pub returns-clause-numbers : goal.returns-clause-numbers
returns-clause-numbers g c = λ caller. ap (λ (x : Seg). numbers_by caller x.log) c.segment.view_is ∙ c.sweep_columns.ensures.runs.numbers caller
