use Rattle.std.proofs.Common.{◌≡◌, ℕ, List, [], ◌∷◌, ◌++◌, length, length-append, refl, sym, ap, ◌∙◌, subst, map-id, arith}
use Rattle.std.proofs.lemmas.Iterator.Adapters.{YieldsList-from_vec}
use Rattle.std.proofs.lemmas.Iterator.Consumers.{YieldsList-end, YieldsList-turn}
use Rattle.std.proofs.lemmas.List.Elements.{All-get_or}
use Rattle.atomic_table.specs.Seated.{TableId}
use Rattle.cod_seg.specs.Seg.{Seg}
use Rattle.cod_turn.specs.Seats.{Seated}
use Rattle.cod_opening.specs.Opening.{AreSeats, left_from}
use Rattle.cod_opening.proofs.Splitting.{first_seat, more_seats, no_seats}
use Rattle.cod_opening.proofs.sharing.turns.Goals as goal

pub stripes-init : goal.stripes-init
stripes-init g c = rw (c.in_ok-turns.ensures.items, c.in_ok-seats.ensures.items) (record { count = refl; are = no_seats (left_from 0) })

pub stripes-preserved : goal.stripes-preserved
stripes-preserved g c =
    let gives = c.into_iter-stripe-iterator.ensures.into_iter_gives in
    let t = YieldsList-turn (YieldsList-from_vec {s = c.into_iter-stripe-iterator.result} c.args.stripes.items gives.0 (gives.1
    ∙ c.args.stripes.ok.0)) c.stripes.yielded c.stripes.stripe-iterator c.stripes.yielded_by c.next.result c.next.new.self c.in-Some.stripe c.in-Some.is c.next.ensures.steps in
    let s = c.in-Some.stripe in
    let empty = subst (λ (x : Seg). x.log ≡ []) (sym t.1) (c.requires (length c.stripes.yielded) s t.0) in
    let turns = c.stripes.turns.items in
    let seats = c.stripes.seats.items in
    let count = c.stripes.invariant.count in
    rw (c.in_ok-push.ensures.items, c.in_ok-push-2.ensures.items) (record {
      count = (let a = length-append turns (c.in_ok-turn.turn ∷ []) in let b = length-append c.stripes.yielded (s ∷ []) in omega (arith, a, b, count));
      are = more_seats turns c.stripes.yielded (left_from 0) seats c.in_ok-turn.turn s c.in_ok-turn.seat c.stripes.invariant.are (sym count)
          (first_seat c.in_ok-turn.turn s c.in_ok-turn.seat empty c.in_ok-turn.ensures);
    })

pub returns : goal.returns
returns g c =
    let gives = c.into_iter-stripe-iterator.ensures.into_iter_gives in
    let e = YieldsList-end (YieldsList-from_vec {s = c.into_iter-stripe-iterator.result} c.args.stripes.items gives.0 (gives.1
    ∙ c.args.stripes.ok.0)) c.stripes.yielded c.stripes.stripe-iterator c.stripes.yielded_by c.next.result c.next.new.self c.in-None.is c.next.ensures.steps in
    let all : c.stripes.yielded ≡ c.args.stripes.items = sym (map-id c.stripes.yielded) ∙ e.0 in
    (c.stripes.invariant.count ∙ ap length all, subst (λ (l : List Seg). AreSeats c.stripes.turns.items l (left_from 0) c.stripes.seats.items) all c.stripes.invariant.are)
