use Rattle.std.proofs.Common.{ap, ◌∙◌}
use Rattle.cod_seg.specs.Seg.{Seg}
use Rattle.cod_turn.specs.Seats.{Seated}
use Rattle.cod_calls.proofs.Between.{answered_told, at_start, event_asked, event_ends, event_fits, event_gives, event_number, goes_between, looked_in_call, request_by}
use Rattle.cod_calls.proofs.calling.call.Goals as goal

pub loop-init : goal.loop-init
loop-init g c =
    at_start c.args.shared.now.board c.args.shared.now.pools.of (g.H.Shelf.regions c.args.shared.now.shelf) c.args.desk.now c.args.slip c.args.seat.now
    c.requires.ready.0 c.requires.ready.1 c.requires.ready.2 c.requires.slip

pub take-stripe-requires-clause-turn : goal.take-stripe-requires-clause-turn
take-stripe-requires-clause-turn g c = c.loop.invariant.of ∙ c.requires.seats.0

pub take-stripe-requires-clause-idle : goal.take-stripe-requires-clause-idle
take-stripe-requires-clause-idle g c = c.loop.invariant.idle

pub event-outcome-requires-clause-seats : goal.event-outcome-requires-clause-seats
event-outcome-requires-clause-seats g c = (c.loop.invariant.board_after.of ∙ c.requires.seats.1, c.loop.invariant.pools_after.of ∙ c.requires.seats.2)

pub event-outcome-requires-clause-fits : goal.event-outcome-requires-clause-fits
event-outcome-requires-clause-fits g c =
    event_fits c.args.shared.now.board c.args.shared.now.pools.of (g.H.Shelf.regions c.args.shared.now.shelf) c.args.desk.now c.loop.desk c.args.slip c.loop.slip
    c.args.seat.now c.loop.seat c.loop.invariant c.requires.dated c.take-stripe.result c.take-stripe.ensures.value

pub event-outcome-requires-clause-asked : goal.event-outcome-requires-clause-asked
event-outcome-requires-clause-asked g c =
    event_asked c.args.shared.now.board c.args.shared.now.pools.of (g.H.Shelf.regions c.args.shared.now.shelf) c.args.desk.now c.loop.desk c.args.slip c.loop.slip
    c.args.seat.now c.loop.seat c.loop.invariant c.requires.dated c.take-stripe.result c.take-stripe.ensures.value

pub event-outcome-requires-clause-number : goal.event-outcome-requires-clause-number
event-outcome-requires-clause-number g c =
    event_number c.args.shared.now.board c.args.shared.now.pools.of (g.H.Shelf.regions c.args.shared.now.shelf) c.args.desk.now c.loop.desk c.args.slip c.loop.slip
    c.args.seat.now c.loop.seat c.loop.invariant c.requires.dated c.take-stripe.result c.take-stripe.ensures.value c.requires.number

pub give-requires-clause-turn : goal.give-requires-clause-turn
give-requires-clause-turn g c = ap (λ (s : Seated Seg). s.of) c.take-stripe.ensures.seat ∙ (c.loop.invariant.of ∙ c.requires.seats.0)

pub give-requires-clause-follows : goal.give-requires-clause-follows
give-requires-clause-follows g c =
    let e = c.event-outcome.ensures in (
      c.take-stripe.result,
      ap (λ (s : Seated Seg). s.knows.hold) c.take-stripe.ensures.seat,
      event_gives c.args.shared.now.board c.args.shared.now.pools.of (g.H.Shelf.regions c.args.shared.now.shelf) c.args.desk.now c.loop.desk c.args.slip c.loop.slip
          c.args.seat.now c.loop.seat c.loop.invariant c.requires.dated c.take-stripe.result c.take-stripe.ensures.value
          c.take-stripe.new.seat c.take-stripe.ensures.seat c.await_room.ensures.sound c.event-outcome.result c.event-outcome.new.stripe c.event-outcome.new.slip
          c.event-outcome.new.desk e.desk e.board e.pools e.range e.turns e.outcome,
    )

pub answered-requires : goal.answered-requires
answered-requires g c =
    answered_told c.event-outcome.result (request_by c.loop.desk c.loop.slip) c.event-outcome.new.desk.clock c.in-Answered.position c.in-Answered.stamp c.event-outcome.new.stripe
    c.loop.slip c.event-outcome.new.slip c.in-Answered.is c.event-outcome.ensures.outcome

pub returns-in-Answered : goal.returns-in-Answered
returns-in-Answered g c =
    let e = c.event-outcome.ensures in
    let held = ap (λ (s : Seated Seg). s.knows.hold) c.take-stripe.ensures.seat in
    let n =
    event_ends c.args.shared.now.board c.args.shared.now.pools.of (g.H.Shelf.regions c.args.shared.now.shelf) c.args.desk.now c.loop.desk c.args.slip c.loop.slip
    c.args.seat.now c.loop.seat c.loop.invariant c.requires.dated c.take-stripe.result c.take-stripe.ensures.value
    c.take-stripe.new.seat c.take-stripe.ensures.seat c.await_room.ensures.sound c.event-outcome.result c.event-outcome.new.stripe c.event-outcome.new.slip
    c.event-outcome.new.desk e.desk e.board e.pools e.range e.turns e.outcome
    c.give.new.seat c.give.ensures.turn c.give.ensures.idle (c.give.ensures.seat c.take-stripe.result held)
    c.answered.result.position c.answered.result.stamp c.answered.result.reply
    (rw (c.answered.ensures.0, c.answered.ensures.1) c.in-Answered.is) c.answered.ensures.2 in
    record {
      seat = (n.of, c.give.ensures.idle);
      desk = n.desk_is;
      board = n.board_after;
      pools = n.pools_after;
      looked = looked_in_call c.args.desk.now.pools c.loop.desk.pools c.event-outcome.new.desk.pools c.event-outcome.new.slip.reply c.answered.result.reply
          c.loop.invariant.pools_after c.answered.ensures.2 e.looked;
      made = n.made;
      ready = n.ready;
    }

pub loop-preserved : goal.loop-preserved
loop-preserved g c =
    let e = c.event-outcome.ensures in
    goes_between c.args.shared.now.board c.args.shared.now.pools.of (g.H.Shelf.regions c.args.shared.now.shelf) c.args.desk.now c.loop.desk c.args.slip c.loop.slip
    c.args.seat.now c.loop.seat c.loop.invariant c.requires.dated c.take-stripe.result c.take-stripe.ensures.value
    c.take-stripe.new.seat c.take-stripe.ensures.seat c.await_room.ensures.sound c.event-outcome.result c.event-outcome.new.stripe c.event-outcome.new.slip
    c.event-outcome.new.desk e.desk e.board e.pools e.range e.turns e.outcome
    c.give.new.seat c.give.ensures.turn c.give.ensures.idle (c.give.ensures.seat c.take-stripe.result (ap (λ (s : Seated Seg). s.knows.hold) c.take-stripe.ensures.seat))
    (λ position stamp is. c.in_default.not-Answered position stamp is)
