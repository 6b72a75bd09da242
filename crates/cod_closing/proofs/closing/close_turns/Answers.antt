use Rattle.std.proofs.Common.{◌≡◌, List, Some, length, refl, sym, ap, ◌∙◌, subst}
use Rattle.std.specs.Prelude.{slice_get}
use Rattle.std.specs.Iterator.Adapters.{zip_second}
use Rattle.std.proofs.lemmas.Iterator.{YieldsList-from_zip}
use Rattle.std.proofs.lemmas.Iterator.Adapters.{YieldsList-from_vec}
use Rattle.std.proofs.lemmas.Iterator.Consumers.{YieldsList-at, YieldsList-end, YieldsList-turn}
use Rattle.cod_seg.specs.Seg.{Seg}
use Rattle.cod_stripe.specs.Sharing.{Without}
use Rattle.cod_homes.specs.Building.{all_rooms}
use Rattle.cod_closing.specs.Closing.{AreReleased}
use Rattle.cod_closing.proofs.Ends.{none_released, released_more}
use Rattle.cod_closing.proofs.Rooms as rooms
use Rattle.cod_closing.proofs.Seats.{long_more, long_zip, zip_at}
use Rattle.cod_closing.proofs.closing.close_turns.Goals as goal

pub turns-init : goal.turns-init
turns-init g c = record {
  size = ap length c.requires.empty;
  room = refl;
  released = subst (AreReleased c.args.seats.items) (sym c.requires.empty) (none_released c.args.seats.items);
  rooms = subst (λ (l : List Seg). Without (all_rooms l) c.args.pool_seat.now c.args.pool_seat.now) (sym c.requires.empty) (rooms.none_released c.args.pool_seat.now);
}

pub close_turn-requires-clause-last : goal.close_turn-requires-clause-last
close_turn-requires-clause-last g c =
    let first = YieldsList-at c.zip-turn-items.ensures.first (YieldsList-from_vec {s = c.into_iter.result} c.args.turns.items c.into_iter.ensures.rest (c.into_iter.ensures.len
    ∙ c.args.turns.ok.0)) in
    let gives = c.zip-turn-items.ensures.second in
    let second = YieldsList-from_vec {s = zip_second c.zip-turn-items.result} c.args.seats.items gives.0 (gives.1 ∙ c.args.seats.ok.0) in
    let both = YieldsList-at c.into_iter-turn-iterator.ensures.into_iter_gives (YieldsList-from_zip {s = c.zip-turn-items.result} first second) in
    let t = YieldsList-turn both c.turns.yielded c.turns.turn-iterator c.turns.yielded_by c.next.result c.next.new.self (c.in-Some.turn, c.in-Some.seat) c.in-Some.is c.next.ensures.steps in
    let at = zip_at c.args.turns.items c.args.seats.items (length c.turns.yielded) c.in-Some.turn c.in-Some.seat t.0 t.1 in
    c.requires.last.each (length c.turns.yielded) c.in-Some.turn c.in-Some.seat at.0 at.1

pub turns-preserved : goal.turns-preserved
turns-preserved g c =
    let first = YieldsList-at c.zip-turn-items.ensures.first (YieldsList-from_vec {s = c.into_iter.result} c.args.turns.items c.into_iter.ensures.rest (c.into_iter.ensures.len
    ∙ c.args.turns.ok.0)) in
    let gives = c.zip-turn-items.ensures.second in
    let second = YieldsList-from_vec {s = zip_second c.zip-turn-items.result} c.args.seats.items gives.0 (gives.1 ∙ c.args.seats.ok.0) in
    let both = YieldsList-at c.into_iter-turn-iterator.ensures.into_iter_gives (YieldsList-from_zip {s = c.zip-turn-items.result} first second) in
    let t = YieldsList-turn both c.turns.yielded c.turns.turn-iterator c.turns.yielded_by c.next.result c.next.new.self (c.in-Some.turn, c.in-Some.seat) c.in-Some.is c.next.ensures.steps in
    let at = zip_at c.args.turns.items c.args.seats.items (length c.turns.yielded) c.in-Some.turn c.in-Some.seat t.0 t.1 in
    let here : slice_get c.args.seats.items (length c.turns.closed.items) ≡ Some c.in-Some.seat = ap (slice_get c.args.seats.items) c.turns.invariant.size ∙ at.1 in
    record {
      size = ap length c.push_reserved.ensures.items ∙ long_more c.turns.closed.items c.turns.yielded c.close_turn.result (c.in-Some.turn, c.in-Some.seat) c.turns.invariant.size;
      room = c.push_reserved.ensures.capacity ∙ c.turns.invariant.room;
      released = subst (AreReleased c.args.seats.items) (sym c.push_reserved.ensures.items)
          (released_more c.args.seats.items c.turns.closed.items c.in-Some.seat c.close_turn.result c.turns.invariant.released here c.close_turn.ensures.released);
      rooms = subst (λ (l : List Seg). Without (all_rooms l) c.close_turn.new.pool_seat c.args.pool_seat.now) (sym c.push_reserved.ensures.items)
          (rooms.more_released c.turns.closed.items c.close_turn.result c.close_turn.new.pool_seat c.turns.pool_seat c.args.pool_seat.now c.turns.invariant.rooms c.close_turn.ensures.rooms);
    }

pub returns-clause-count : goal.returns-clause-count
returns-clause-count g c =
    let first = YieldsList-at c.zip-turn-items.ensures.first (YieldsList-from_vec {s = c.into_iter.result} c.args.turns.items c.into_iter.ensures.rest (c.into_iter.ensures.len
    ∙ c.args.turns.ok.0)) in
    let gives = c.zip-turn-items.ensures.second in
    let second = YieldsList-from_vec {s = zip_second c.zip-turn-items.result} c.args.seats.items gives.0 (gives.1 ∙ c.args.seats.ok.0) in
    let both = YieldsList-at c.into_iter-turn-iterator.ensures.into_iter_gives (YieldsList-from_zip {s = c.zip-turn-items.result} first second) in
    let e = YieldsList-end both c.turns.yielded c.turns.turn-iterator c.turns.yielded_by c.next.result c.next.new.self c.in-None.is c.next.ensures.steps in
    c.turns.invariant.size ∙ (e.1 ∙ long_zip c.args.turns.items c.args.seats.items c.requires.last.count)
