use Rattle.std.proofs.Common.{◌≡◌, sym, ap, ◌∙◌, subst, Some, length}
use mathlib.Core.Option.{some-injective}
use Rattle.cod_seats.specs.Totals.{once_below, times}
use Rattle.cod_turn.specs.Turning.{Meets, callers}
use Rattle.cod_turn.specs.Seats.{Seated}
use Rattle.cod_turn.proofs.Totals.{length-firsts}
use Rattle.cod_turn.proofs.Keeps.{ends}
use Rattle.cod_turn.proofs.Sitting.{idle}
use Rattle.cod_turn.proofs.turn.Turn.close.Goals as goal

pub unreachable-requires : goal.unreachable-requires
unreachable-requires g c =
    let s = c.seat.inside.seat in
    let all = sym (length-firsts s.me.0.own) ∙ (ap (λ (w : Seated g.row.T.Denot). length (callers w.knows)) c.seat.view_is ∙ c.requires.all) in
    let e = ends g.T.Stands.name g.T.Stands.entries g.T.Stands.open_calls s.id s.me.0 _ _ (idle s c.args.seat c.seat.view_is c.requires.idle) all c.close_with-closed.ensures.values.2 in
    let same : Some e.0 ≡ c.take-value.result = some-injective _ _ (sym e.1 ∙ c.take-value.ensures.value) in
    absurd (cc (same, c.in-None.is))

pub returns-clause-value : goal.returns-clause-value
returns-clause-value g c =
    let s = c.seat.inside.seat in
    let all = sym (length-firsts s.me.0.own) ∙ (ap (λ (w : Seated g.row.T.Denot). length (callers w.knows)) c.seat.view_is ∙ c.requires.all) in
    let e = ends g.T.Stands.name g.T.Stands.entries g.T.Stands.open_calls s.id s.me.0 _ _ (idle s c.args.seat c.seat.view_is c.requires.idle) all c.close_with-closed.ensures.values.2 in
    let same : Some e.0 ≡ c.take-value.result = some-injective _ _ (sym e.1 ∙ c.take-value.ensures.value) in
    let is : e.0 ≡ c.in-Some.value = cc (same, c.in-Some.is) in
    subst (λ (w : Seated g.row.T.Denot). Meets g.T.Stands.name g.T.Stands.entries g.T.Stands.open_calls w.knows c.in-Some.value) c.seat.view_is
    (subst (Meets g.T.Stands.name g.T.Stands.entries g.T.Stands.open_calls s.me.0) is e.2)

pub returns-clause-places : goal.returns-clause-places
returns-clause-places g c p =
    let s = c.seat.inside.seat in
    let all = sym (length-firsts s.me.0.own) ∙ (ap (λ (w : Seated g.row.T.Denot). length (callers w.knows)) c.seat.view_is ∙ c.requires.all) in
    let e = ends g.T.Stands.name g.T.Stands.entries g.T.Stands.open_calls s.id s.me.0 _ _ (idle s c.args.seat c.seat.view_is c.requires.idle) all c.close_with-closed.ensures.values.2 in
    let same : Some e.0 ≡ c.take-value.result = some-injective _ _ (sym e.1 ∙ c.take-value.ensures.value) in
    let is : e.0 ≡ c.in-Some.value = cc (same, c.in-Some.is) in
    sym (ap (λ (w : Seated g.row.T.Denot). times p w.knows.places) c.seat.view_is) ∙ (e.3 p ∙ ap (λ (x : g.row.T.Denot). once_below p (length (g.T.Stands.entries x))) is)
