use Rattle.std.proofs.Common.{◌≡◌, ◌+◌, ◌<◌, ◌≤◌, ℕ, List, [], ◌∷◌, ◌++◌, length, None, Some, refl, sym, ap, ◌∙◌, subst, arith}
use Rattle.std.specs.Prelude.{slice_get}
use Rattle.std.proofs.lemmas.Option.{get_or_from_slice_get, slice_get_read}
use Rattle.atomic_table.specs.Seated.{TableId}
use Rattle.cod_seg.specs.Seg.{Seg}
use Rattle.cod_turn.specs.Seats.{Seated}
use Rattle.cod_turn.specs.Turning.{callers}
use Rattle.cod_opening.specs.Opening.{AreSeats, IsSeat, left_from, seat_of}
use Rattle.cod_opening.proofs.Splitting.{split_all, split_here, split_one}
use Rattle.cod_opening.proofs.seats.split.Goals as goal

pub split-seat-requires-clause-turn : goal.split-seat-requires-clause-turn
split-seat-requires-clause-turn g c =
    let r = c.requires in
    let h = split_here c.args.turns.now r.0 r.1 c.turns.at c.turns.firsts.items c.turns.seats.items c.index_mut.result.now c.index-turns-at.result (c.turns.invariant.so r.0 r.1 r.2 r.3)
    c.turns-test.true c.index_mut.ensures.value c.index-turns-at.is in
    h.turn_is

pub split-seat-requires-clause-idle : goal.split-seat-requires-clause-idle
split-seat-requires-clause-idle g c =
    let r = c.requires in
    let h = split_here c.args.turns.now r.0 r.1 c.turns.at c.turns.firsts.items c.turns.seats.items c.index_mut.result.now c.index-turns-at.result (c.turns.invariant.so r.0 r.1 r.2 r.3)
    c.turns-test.true c.index_mut.ensures.value c.index-turns-at.is in
    h.idle

pub split-seat-requires-clause-two : goal.split-seat-requires-clause-two
split-seat-requires-clause-two g c =
    let r = c.requires in
    let h = split_here c.args.turns.now r.0 r.1 c.turns.at c.turns.firsts.items c.turns.seats.items c.index_mut.result.now c.index-turns-at.result (c.turns.invariant.so r.0 r.1 r.2 r.3)
    c.turns-test.true c.index_mut.ensures.value c.index-turns-at.is in
    h.two r.2

pub turns-preserved : goal.turns-preserved
turns-preserved g c = record {
  so = λ segs n few are.
      let so = c.turns.invariant.so segs n few are in
      let h = split_here c.args.turns.now segs n c.turns.at c.turns.firsts.items c.turns.seats.items c.index_mut.result.now c.index-turns-at.result so
      c.turns-test.true c.index_mut.ensures.value c.index-turns-at.is in
      rw c.in_ok-push.ensures.items (split_one c.args.turns.now segs n c.turns.at c.turns.firsts.items c.turns.seats.items c.index_mut.result.now c.split-seat.new.seat c.split-seat.result few so
      h.there c.split-seat.ensures.left c.split-seat.ensures.right);
  count = refl;
}

pub returns : goal.returns
returns g c = λ segs n few are.
    let t = c.turns-test.false in
    let e = c.turns.auto.at-end in
    let n' = c.turns.invariant.count in
    split_all c.args.turns.now segs n c.turns.at c.turns.firsts.items c.turns.seats.items (omega (arith, t, e)) (c.turns.invariant.so segs n few are)
