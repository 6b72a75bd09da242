use Rattle.std.proofs.Common.{◌∙◌, refl, sym, ap}
use Rattle.std.specs.Option.{option_map}
use Rattle.cod_seg.specs.Seg.{Seg}
use Rattle.cod_step.specs.Scenes.{job_in}
use Rattle.cod_segment.proofs.segment.Segment.scene.Goals as goal

pub returns : goal.returns
returns g c = rw (← c.self.view_is) (record { shape_is = refl; live_is = c.live_nodes.ensures; claims_are = refl; job_is = c.job.ensures ∙ sym (ap (λ (x : Seg). option_map job_in x.rebuild) c.self.view_is) })
