use Rattle.std.proofs.Common.{◌∙◌, ℕ, ap}
use Rattle.cod_types.specs.Limits.{Shape}
use Rattle.cod_step.specs.Live.{column_on}
use Rattle.cod_step.proofs.Showing.{found_is}
use Rattle.cod_step.proofs.scene.column_on.Goals as goal

pub returns : goal.returns
returns c = λ s sound shape live.
    c.first_on.ensures
    ∙ ap (λ (n : ℕ). column_on n c.args.live.now c.args.node.0) (c.n.ensures ∙ ap (λ (g : Shape). g.n) shape)
    ∙ found_is s c.args.live.now c.args.node.0 sound live
