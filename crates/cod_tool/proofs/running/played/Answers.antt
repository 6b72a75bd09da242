use Rattle.std.proofs.Common.{List, subst}
use Rattle.cod_seg.specs.Seg.{Seg}
use Rattle.cod_shell.specs.Numbers.{AllFit}
use Rattle.cod_tool.proofs.Runs.{has_run}
use Rattle.cod_tool.proofs.running.played.Goals as goal

pub returns : goal.returns
returns g c =
    has_run (g.H.Shelf.regions c.args.shelf) c.args.scenario c.in-Ok.replay c.run.new.self c.in-Ok.ensures.course c.in-Ok.ensures.world c.in-Ok.ensures.fresh c.run.ensures.run c.run.ensures.course
    c.run.ensures.segments c.run.ensures.idle c.stripes.ensures.stands
    (subst (λ (l : List Seg). AllFit (λ (s : Seg). s.log) l) c.stripes.ensures.segments c.all_fit.ensures)
