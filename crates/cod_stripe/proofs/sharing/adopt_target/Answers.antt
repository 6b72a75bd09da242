use Rattle.std.proofs.Common.{◌∙◌, List, sym, ap, subst}
use Rattle.cod_place.specs.Room.{Room}
use Rattle.cod_seg.specs.Seg.{Rebuilding}
use Rattle.cod_segment.specs.Events.{goal_rooms, rebuild_rooms}
use Rattle.cod_stripe.specs.Sharing.{Without}
use Rattle.cod_stripe.proofs.Rooming.{adopted_room, target_within}
use Rattle.cod_stripe.proofs.sharing.adopt_target.Goals as goal

pub returns-in-Some-target-clause-seat : goal.returns-in-Some-target-clause-seat
returns-in-Some-target-clause-seat g c =
    let room = c.in-Some-target.target.room in
    let are = ap rebuild_rooms c.in-Some.is ∙ ap (λ (r : Rebuilding). goal_rooms r.target) (sym c.rebuild.view_is) ∙ ap goal_rooms c.in-Some-target.is in
    subst (λ (rooms : List Room). Without rooms c.args.seat.now c.adopt.new.seat) (sym are)
    (adopted_room room c.args.seat.now c.adopt.new.seat (target_within room (rebuild_rooms c.args.rebuild.now) c.args.seat.now are c.requires.bytes) c.adopt.ensures.seat)
