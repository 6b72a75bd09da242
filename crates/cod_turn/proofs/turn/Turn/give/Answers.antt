use Rattle.std.proofs.Common.{Some, None, ◌∷◌, [], sym, ap, ◌∙◌, subst, ℕ, ◌≡◌, refl, length, Option, List, arith}
use Rattle.atomic_table.specs.Table.{rest, Me, Allows}
use Rattle.cod_turn.specs.declared.view.View.{View}
use Rattle.cod_turn.specs.Turning.{Kept, put_out, held_by, published, given, FollowsByOne, callers}
use Rattle.cod_turn.specs.Seats.{Seated}
use Rattle.cod_turn.proofs.Following.{begins, others_calls, others_open}
use Rattle.cod_turn.proofs.Keeps.{publishes, lets_go, still_some}
use Rattle.cod_turn.proofs.Sitting.{board, in_hand, still_sits}
use Rattle.cod_turn.proofs.turn.Turn.give.Goals as goal

pub exchange-requires : goal.exchange-requires
exchange-requires g c =
    let s = c.seat.inside.seat in
    let q = c.requires.follows in
    let mine = in_hand s q.0 c.seat.invariant (ap (λ (w : Seated g.row.T.Denot). w.knows.hold) c.seat.view_is ∙ q.1) in
    (board s c.args.seat.now c.args.self.now _ c.seat.view_is c.requires.turn c.self.view_is, (None, mine ∙ (λ i. (0, None) ∷ sym (ap rest mine) i)))

pub store-requires : goal.store-requires
store-requires g c =
    let s = c.seat.inside.seat in
    let q = c.requires.follows in
    let v : View g.row.T.Denot = s.me.0 in
    let has : v.hold ≡ Some q.0 = ap (λ (w : Seated g.row.T.Denot). w.knows.hold) c.seat.view_is ∙ q.1 in
    let follows = subst (λ (w : Seated g.row.T.Denot). FollowsByOne g.T.Stands.name g.T.Stands.entries g.T.Stands.gauge g.T.Stands.open_calls g.T.Stands.event (callers w.knows) q.0 c.args.value)
    (sym c.seat.view_is) q.2 in
    let e = c.exchange.ensures.3 ∙ ap (λ (l : List (ℕ × Option g.row.T.Denot)). (v, (0, Some c.args.value) ∷ rest l)) (in_hand s q.0 c.seat.invariant has) in
    let two = c.self.invariant.0 in (
      c.exchange.ensures.0 ∙ board s c.args.seat.now c.args.self.now _ c.seat.view_is c.requires.turn c.self.view_is,
      omega arith,
      subst (λ (m : Me (Option g.row.T.Denot) (View g.row.T.Denot)). Allows
          (Kept g.T.Stands.name g.T.Stands.entries g.T.Stands.open_calls) c.self.inside.table.shared.table_id.slots c.exchange.new.seat.id m 1 (λ _. c.len-count.result)
          (λ _. put_out g.T.Stands.name g.T.Stands.entries g.T.Stands.open_calls m))
          (sym e)
          (publishes g.T.Stands.name g.T.Stands.entries g.T.Stands.open_calls _ _ (v, (0, Some c.args.value) ∷ []) q.0 c.args.value _ has refl c.seat.invariant.1
          (c.len-count.ensures ∙ ap length c.chronicle.ensures) follows.step.name_stays
          (begins g.T.Stands.name g.T.Stands.entries g.T.Stands.gauge g.T.Stands.open_calls g.T.Stands.event (callers v) q.0 c.args.value follows)
          (others_calls g.T.Stands.name g.T.Stands.entries g.T.Stands.gauge g.T.Stands.open_calls g.T.Stands.event (callers v) q.0 c.args.value follows)
          (others_open g.T.Stands.name g.T.Stands.entries g.T.Stands.gauge g.T.Stands.open_calls g.T.Stands.event (callers v) q.0 c.args.value follows)),
    )

pub store-requires-2 : goal.store-requires-2
store-requires-2 g c =
    let s = c.seat.inside.seat in
    let q = c.requires.follows in
    let v : View g.row.T.Denot = s.me.0 in
    let has : v.hold ≡ Some q.0 = ap (λ (w : Seated g.row.T.Denot). w.knows.hold) c.seat.view_is ∙ q.1 in
    let e = c.exchange.ensures.3 ∙ ap (λ (l : List (ℕ × Option g.row.T.Denot)). (v, (0, Some c.args.value) ∷ rest l)) (in_hand s q.0 c.seat.invariant has) in
    let w : View g.row.T.Denot = published g.T.Stands.name g.T.Stands.entries g.T.Stands.open_calls v q.0 c.args.value in
    let f = c.store.ensures.2 q.0 c.args.value (ap (λ m. m.0.hold) e ∙ has) (ap (λ m. m.1) e) in
    let h = f ∙ (λ i. (published g.T.Stands.name g.T.Stands.entries g.T.Stands.open_calls (e i).0 q.0 c.args.value, (e i).1)) in
    let two = c.self.invariant.0 in (
      c.store.ensures.0 ∙ (c.exchange.ensures.0 ∙ board s c.args.seat.now c.args.self.now _ c.seat.view_is c.requires.turn c.self.view_is),
      omega arith,
      subst (λ (m : Me (Option g.row.T.Denot) (View g.row.T.Denot)). Allows
          (Kept g.T.Stands.name g.T.Stands.entries g.T.Stands.open_calls) c.self.inside.table.shared.table_id.slots c.store.new.seat.id m 0 (λ _. 0) (λ _ w. w ≡ (held_by m.0 None, [])))
          (sym h)
          (lets_go g.T.Stands.name g.T.Stands.entries g.T.Stands.open_calls _ _ (w, (0, Some c.args.value) ∷ []) c.args.value refl refl (still_some c.args.value v.own c.seat.invariant.1)),
    )

pub invariant_of-seat : goal.invariant_of-seat
invariant_of-seat g c =
    let s = c.seat.inside.seat in
    let q = c.requires.follows in
    let v : View g.row.T.Denot = s.me.0 in
    let has : v.hold ≡ Some q.0 = ap (λ (w : Seated g.row.T.Denot). w.knows.hold) c.seat.view_is ∙ q.1 in
    let e = c.exchange.ensures.3 ∙ ap (λ (l : List (ℕ × Option g.row.T.Denot)). (v, (0, Some c.args.value) ∷ rest l)) (in_hand s q.0 c.seat.invariant has) in
    let f = c.store.ensures.2 q.0 c.args.value (ap (λ m. m.0.hold) e ∙ has) (ap (λ m. m.1) e) in
    let h = f ∙ (λ i. (published g.T.Stands.name g.T.Stands.entries g.T.Stands.open_calls (e i).0 q.0 c.args.value, (e i).1)) in
    let k = c.store-2.ensures.2 ∙ (λ i. (held_by (h i).0 None, [])) in
    still_sits _ c.store-2.new.seat k refl (still_some c.args.value v.own c.seat.invariant.1)

pub returns-clause-turn : goal.returns-clause-turn
returns-clause-turn g c = c.store-2.ensures.0 ∙ (c.store.ensures.0 ∙ (c.exchange.ensures.0 ∙ ap (λ (w : Seated g.row.T.Denot). w.of) c.seat.view_is))

pub returns-clause-idle : goal.returns-clause-idle
returns-clause-idle g c = ap (λ m. m.0.hold) c.store-2.ensures.2

pub returns-clause-seat : goal.returns-clause-seat
returns-clause-seat g c x took =
    let s = c.seat.inside.seat in
    let q = c.requires.follows in
    let v : View g.row.T.Denot = s.me.0 in
    let has : v.hold ≡ Some q.0 = ap (λ (w : Seated g.row.T.Denot). w.knows.hold) c.seat.view_is ∙ q.1 in
    let e = c.exchange.ensures.3 ∙ ap (λ (l : List (ℕ × Option g.row.T.Denot)). (v, (0, Some c.args.value) ∷ rest l)) (in_hand s q.0 c.seat.invariant has) in
    let f = c.store.ensures.2 q.0 c.args.value (ap (λ m. m.0.hold) e ∙ has) (ap (λ m. m.1) e) in
    let h = f ∙ (λ i. (published g.T.Stands.name g.T.Stands.entries g.T.Stands.open_calls (e i).0 q.0 c.args.value, (e i).1)) in
    let k = c.store-2.ensures.2 ∙ (λ i. (held_by (h i).0 None, [])) in
    let same : q.0 ≡ x = cc (q.1, took) in
    ap (λ m. m.0) k ∙ ((λ i. given g.T.Stands.name g.T.Stands.entries g.T.Stands.open_calls v (same i) c.args.value)
    ∙ ap (λ (w : Seated g.row.T.Denot). given g.T.Stands.name g.T.Stands.entries g.T.Stands.open_calls w.knows x c.args.value) c.seat.view_is)
