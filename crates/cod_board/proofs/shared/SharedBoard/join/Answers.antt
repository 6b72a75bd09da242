use Rattle.std.proofs.Common.{sym, ap, ◌∙◌}
use Rattle.cod_board.specs.declared.view.View.{View}
use Rattle.cod_board.specs.Words.{both_of}
use Rattle.cod_board.specs.Seats.{Seated}
use Rattle.cod_board.proofs.Keeps.{joins}
use Rattle.cod_board.proofs.Sitting.{changed, still_sits, both_some}
use Rattle.cod_board.proofs.shared.SharedBoard.join.Goals as goal

pub join_seat-requires : goal.join_seat-requires
join_seat-requires c =
    let board = sym c.self.view_is in (
      ap (λ (s : Seated). s.of) c.seat.view_is ∙ (c.requires.board.0 ∙ board),
      ap (λ (s : Seated). s.of) c.other.view_is ∙ (c.requires.board.1 ∙ board),
      c.other.invariant.0,
      c.self.invariant.2,
      joins _ _ _ _ _ c.seat.invariant.1,
    )

pub invariant_of-seat : goal.invariant_of-seat
invariant_of-seat c = still_sits _ c.seat.inside.seat c.join_seat.new.seat c.join_seat.ensures.2 (both_some c.seat.inside.seat.me.0 c.other.inside.seat.me.0 c.seat.invariant.1) c.seat.invariant

pub returns : goal.returns
returns c =
    changed (λ (v : View). both_of v c.other.inside.seat.me.0) c.seat.inside.seat c.join_seat.new.seat c.args.seat.now c.seat.view_is c.join_seat.ensures.0 c.join_seat.ensures.2
    ∙ ap (λ (s : Seated). record { of = c.args.seat.now.of; knows = both_of c.args.seat.now.knows s.knows }) c.other.view_is
