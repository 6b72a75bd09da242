use Rattle.std.proofs.Common.{◌∙◌, List, sym, ap, subst}
use Rattle.cod_place.specs.Room.{Room}
use Rattle.cod_seg.specs.Seg.{Rebuilding}
use Rattle.cod_segment.specs.Events.{goal_rooms, rebuild_rooms}
use Rattle.cod_stripe.specs.Sharing.{Without}
use Rattle.cod_stripe.proofs.Rooming.{released_room}
use Rattle.cod_stripe.proofs.sharing.release_target.Goals as goal

pub returns-in-Some-target-clause-seat : goal.returns-in-Some-target-clause-seat
returns-in-Some-target-clause-seat g c =
    let are = ap rebuild_rooms c.in-Some.is ∙ ap (λ (r : Rebuilding). goal_rooms r.target) (sym c.rebuild.view_is) ∙ ap goal_rooms c.in-Some-target.is in
    subst (λ (rooms : List Room). Without rooms c.release.new.seat c.args.seat.now) (sym are)
    (released_room c.in-Some-target.target.room c.args.seat.now c.release.new.seat c.release.ensures.seat)
