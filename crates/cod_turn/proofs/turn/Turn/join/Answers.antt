use Rattle.std.proofs.Common.{ap, ◌∙◌, arith}
use Rattle.cod_turn.specs.declared.view.View.{View}
use Rattle.cod_turn.specs.Turning.{both_of}
use Rattle.cod_turn.specs.Seats.{Seated}
use Rattle.cod_turn.proofs.Keeps.{joins}
use Rattle.cod_turn.proofs.Sitting.{board, idle, bare, changed, still_sits, both_some}
use Rattle.cod_turn.proofs.turn.Turn.join.Goals as goal

pub join_seat-requires : goal.join_seat-requires
join_seat-requires g c =
    let s = c.seat.inside.seat in
    let o = c.other.inside.seat in
    let i = idle s c.args.seat.now c.seat.view_is c.requires.idle.0 in
    let j = idle o c.args.other c.other.view_is c.requires.idle.1 in
    let two = c.self.invariant.0 in (
      board s c.args.seat.now c.args.self.now _ c.seat.view_is c.requires.turn.0 c.self.view_is,
      board o c.args.other c.args.self.now _ c.other.view_is c.requires.turn.1 c.self.view_is,
      bare o c.other.invariant j,
      omega arith,
      joins _ _ _ _ _ _ _ i j c.seat.invariant.1 c.other.invariant.1,
    )

pub invariant_of-seat : goal.invariant_of-seat
invariant_of-seat g c =
    let s = c.seat.inside.seat in
    let i = idle s c.args.seat.now c.seat.view_is c.requires.idle.0 in
    let me = c.join_seat.ensures.2 ∙ ap (λ l. (both_of s.me.0 c.other.inside.seat.me.0, l)) (bare s c.seat.invariant i) in
    still_sits _ c.join_seat.new.seat me i (both_some s.me.0 c.other.inside.seat.me.0 c.seat.invariant.1)

pub returns : goal.returns
returns g c =
    let s = c.seat.inside.seat in
    let o = c.other.inside.seat in
    changed (λ (v : View g.row.T.Denot). both_of v o.me.0) s c.join_seat.new.seat c.args.seat.now c.seat.view_is c.join_seat.ensures.0 (ap (λ m. m.0) c.join_seat.ensures.2)
    ∙ ap (λ (w : Seated g.row.T.Denot). record { of = c.args.seat.now.of; knows = both_of c.args.seat.now.knows w.knows }) c.other.view_is
