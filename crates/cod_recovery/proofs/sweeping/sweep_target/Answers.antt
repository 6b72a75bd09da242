use Rattle.std.proofs.Common.{sym, ◌∙◌}
use Rattle.cod_recovery.proofs.Sweeps.{target_spared}
use Rattle.cod_recovery.proofs.sweeping.sweep_target.Goals as goal

pub returns-else-is_some-clause-swept : goal.returns-else-is_some-clause-swept
returns-else-is_some-clause-swept g c =
    target_spared (g.B.Board.kills c.args.board.now) (g.B.Board.kills c.down.new.self) c.in-Some-target_node.node c.down.result c.args.rebuild.now c.in-Some.rebuild c.in-Some.is
    (sym c.target_node.ensures ∙ c.in-Some-target_node.is) (sym c.is_some.ensures ∙ c.if-is_some.false) c.down.ensures.known c.down.ensures.learned
