use Rattle.std.proofs.Common.{sym, ◌∙◌, ap, subst}
use Rattle.std.specs.List.{list_all}
use Rattle.cod_replay.specs.Standing.{Stands}
use Rattle.cod_replay.specs.State.{State}
use Rattle.cod_replay.specs.Tasks.{has_ended}
use Rattle.cod_replay.proofs.Ending.{all_ended, ended_all}
use Rattle.cod_replay.proofs.replay.Replay.has_ended.Goals as goal

pub returns : goal.returns
returns g c =
    let st = subst Stands c.self.view_is c.self.invariant.stands in
    let is = c.all_ended.ensures ∙ ap (list_all has_ended) (c.deref.ensures.value ∙ ap (λ (s : State). s.plays) c.self.view_is) in
    (λ yes. all_ended c.args.self.now st (sym is ∙ yes), λ ended. is ∙ ended_all c.args.self.now st ended)
