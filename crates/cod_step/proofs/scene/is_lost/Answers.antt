use Rattle.std.proofs.Common.{◌∙◌, ap}
use Rattle.cod_types.specs.Limits.{Shape}
use Rattle.cod_step.specs.Live.{is_lost}
use Rattle.cod_step.proofs.Showing.{over_is}
use Rattle.cod_step.proofs.scene.is_lost.Goals as goal

pub returns : goal.returns
returns c = λ s sound shape live.
    c.too_many_down.ensures ∙ ap (λ (g : Shape). is_lost g c.args.live.now) shape ∙ over_is s c.args.live.now sound live
