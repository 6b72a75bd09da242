use Rattle.std.proofs.Common.{◌≤◌, ◌<◌, length, sym, ap, ◌∙◌, subst}
use Rattle.cod_board.specs.Words.{left_of, right_of}
use Rattle.cod_board.specs.Seats.{Seated}
use Rattle.cod_board.proofs.Keeps.{splits}
use Rattle.cod_board.proofs.Sitting.{changed, still_sits, left_some, right_some, has_least}
use Rattle.cod_board.proofs.shared.SharedBoard.split.Goals as goal

pub split_seat-requires : goal.split_seat-requires
split_seat-requires c =
    let board = ap (λ (s : Seated). s.of) c.seat.view_is ∙ (c.requires.board ∙ sym c.self.view_is) in
    (board, c.self.invariant.2, splits _ _ _ (subst (λ (s : Seated). 2 ≤ length s.knows.numbers) (sym c.seat.view_is) c.requires.two))

pub invariant_of-seat : goal.invariant_of-seat
invariant_of-seat c =
    let two = subst (λ (s : Seated). 2 ≤ length s.knows.numbers) (sym c.seat.view_is) c.requires.two in
    still_sits _ c.seat.inside.seat c.split_seat.new.seat c.split_seat.ensures.2 (left_some c.seat.inside.seat.me.0 two) c.seat.invariant

pub invariant_of-result : goal.invariant_of-result
invariant_of-result c =
    let two = subst (λ (s : Seated). 2 ≤ length s.knows.numbers) (sym c.seat.view_is) c.requires.two in
    (ap (λ m. m.1) c.split_seat.ensures.4, subst (λ m. 0 < length m.0.numbers) (sym c.split_seat.ensures.4) (right_some c.seat.inside.seat.me.0 two))

pub returns-clause-left : goal.returns-clause-left
returns-clause-left c = changed left_of c.seat.inside.seat c.split_seat.new.seat c.args.seat.now c.seat.view_is c.split_seat.ensures.0 c.split_seat.ensures.2

pub returns-clause-right : goal.returns-clause-right
returns-clause-right c = λ i. record {
  of = (c.split_seat.ensures.3 ∙ ap (λ (s : Seated). s.of) c.seat.view_is) i;
  knows = (ap (λ m. m.0) c.split_seat.ensures.4 ∙ ap (λ (s : Seated). right_of s.knows) c.seat.view_is) i;
}

pub returns-clause-least : goal.returns-clause-least
returns-clause-least c =
    let numbers = ap (λ m. m.0.numbers) c.split_seat.ensures.4 ∙ ap (λ (s : Seated). (right_of s.knows).numbers) c.seat.view_is in
    has_least c.args.seat.now.knows.numbers _ c.requires.two numbers
