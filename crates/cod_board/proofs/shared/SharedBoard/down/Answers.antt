use Rattle.std.proofs.Common.{◌<◌, Option, sym, ap, ◌∙◌, subst}
use Rattle.std.specs.Prelude.{IsSome}
use Rattle.atomic_table.specs.Seated.{TableId}
use Rattle.cod_board.specs.declared.kill.Kill.{Kill}
use Rattle.cod_board.specs.declared.view.View.{View}
use Rattle.cod_board.specs.Words.{after_down, known, in_word}
use Rattle.cod_board.specs.Seats.{Seated}
use Rattle.cod_board.proofs.Found.{word_line}
use Rattle.cod_board.proofs.Keeps.{loads}
use Rattle.cod_board.proofs.Sitting.{changed, still_sits, down_some}
use Rattle.cod_board.proofs.shared.SharedBoard.down.Goals as goal

pub load-found-requires : goal.load-found-requires
load-found-requires c =
    let board = ap (λ (s : Seated). s.of) c.seat.view_is ∙ (c.requires.board ∙ sym c.self.view_is) in
    (board, subst (λ (z : TableId). c.args.node.0 < z.words) (sym c.self.view_is) c.requires.node, loads _ _ _ _ _)

pub invariant_of-seat : goal.invariant_of-seat
invariant_of-seat c = still_sits _ c.seat.inside.seat c.load-found.new.seat c.load-found.ensures.2.0
    (down_some c.seat.inside.seat.me.0 c.args.node.0 (in_word c.load-found.result) c.seat.invariant.1) c.seat.invariant

pub returns-clause-seat : goal.returns-clause-seat
returns-clause-seat c =
    changed (λ (v : View). after_down v c.args.node.0
    (in_word c.load-found.result)) c.seat.inside.seat c.load-found.new.seat c.args.seat.now c.seat.view_is c.load-found.ensures.0 c.load-found.ensures.2.0
    ∙ ap (λ (o : Option Kill). record { of = c.args.seat.now.of; knows = after_down c.args.seat.now.knows c.args.node.0 o }) (sym c.kill_in.ensures)

pub returns-clause-line : goal.returns-clause-line
returns-clause-line c = word_line c.load-found.result c.kill_in.result c.load-found.ensures.2.1.0 c.kill_in.ensures

pub returns-clause-known : goal.returns-clause-known
returns-clause-known c some =
    let seen = ap (λ (s : Seated). known c.args.node.0 s.knows.seen) c.seat.view_is in
    c.kill_in.ensures ∙ (c.load-found.ensures.2.1.1 (subst (λ (o : Option Kill). IsSome o) (sym seen) some) ∙ seen)
