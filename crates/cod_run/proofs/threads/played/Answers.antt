use Rattle.cod_run.proofs.Played.{end_over}
use Rattle.cod_run.proofs.threads.played.Goals as goal

pub returns-in-Ok-clause-end : goal.returns-in-Ok-clause-end
returns-in-Ok-clause-end g c =
    end_over g.H.Shelf.regions c.args.scenario.now (record { segs = c.ended.result.stripes.items; kills = c.ended.result.board }) _ _ c.in-Ok.ensures.shelf
    (c.ended.ensures.end c.args.scenario.now c.in-Ok.ensures.ready)

pub returns-in-Ok-clause-left : goal.returns-in-Ok-clause-left
returns-in-Ok-clause-left g c = c.ended.ensures.left c.args.scenario.now c.in-Ok.ensures.ready
