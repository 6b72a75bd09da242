use Rattle.std.proofs.Common.{◌∙◌}
use Rattle.cod_step.proofs.Showing.{chosen_is}
use Rattle.cod_step.proofs.next.next_step.Goals as goal

pub returns : goal.returns
returns c = λ s sound shown.
    c.choose.ensures ∙ chosen_is c.args.scene.now.shape c.args.scene.now.live c.args.scene.now.claims.now c.args.scene.now.job c.args.caller.0 c.args.call.now s sound shown
