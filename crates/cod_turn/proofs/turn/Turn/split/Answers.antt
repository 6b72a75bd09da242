use Rattle.std.proofs.Common.{refl, ap, ◌∙◌, arith}
use Rattle.cod_turn.specs.Turning.{left_of, right_of, callers}
use Rattle.cod_turn.specs.Seats.{Seated}
use Rattle.cod_turn.proofs.Keeps.{splits}
use Rattle.cod_turn.proofs.Totals.{has_least}
use Rattle.cod_turn.proofs.Sitting.{board, idle, bare, changed, still_sits, left_some, right_some, two_own}
use Rattle.cod_turn.proofs.turn.Turn.split.Goals as goal

pub split_seat-requires : goal.split_seat-requires
split_seat-requires g c =
    let s = c.seat.inside.seat in
    let i = idle s c.args.seat.now c.seat.view_is c.requires.idle in
    let two = c.self.invariant.0 in
    (board s c.args.seat.now c.args.self.now _ c.seat.view_is c.requires.turn c.self.view_is, omega arith, splits _ _ _ _ _ i (two_own s c.args.seat.now c.seat.view_is c.requires.two))

pub invariant_of-seat : goal.invariant_of-seat
invariant_of-seat g c =
    let s = c.seat.inside.seat in
    let i = idle s c.args.seat.now c.seat.view_is c.requires.idle in
    let me = c.split_seat.ensures.2 ∙ ap (λ l. (left_of s.me.0, l)) (bare s c.seat.invariant i) in
    still_sits _ c.split_seat.new.seat me i (left_some s.me.0 (two_own s c.args.seat.now c.seat.view_is c.requires.two))

pub invariant_of-result : goal.invariant_of-result
invariant_of-result g c =
    let s = c.seat.inside.seat in
    still_sits _ c.split_seat.result c.split_seat.ensures.4 refl (right_some s.me.0 (two_own s c.args.seat.now c.seat.view_is c.requires.two))

pub returns-clause-left : goal.returns-clause-left
returns-clause-left g c = changed left_of c.seat.inside.seat c.split_seat.new.seat c.args.seat.now c.seat.view_is c.split_seat.ensures.0 (ap (λ m. m.0) c.split_seat.ensures.2)

pub returns-clause-right : goal.returns-clause-right
returns-clause-right g c = changed right_of c.seat.inside.seat c.split_seat.result c.args.seat.now c.seat.view_is c.split_seat.ensures.3 (ap (λ m. m.0) c.split_seat.ensures.4)

pub returns-clause-least : goal.returns-clause-least
returns-clause-least g c =
    let numbers = ap (λ m. callers m.0) c.split_seat.ensures.4 ∙ ap (λ (s : Seated g.row.T.Denot). callers (right_of s.knows)) c.seat.view_is in
    has_least c.args.seat.now.knows.own _ c.requires.two numbers
