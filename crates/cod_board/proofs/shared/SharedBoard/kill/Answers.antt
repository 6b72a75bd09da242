use Rattle.std.proofs.Common.{◌<◌, ℕ, Option, sym, ap, ◌∙◌, subst, arith}
use Rattle.std.specs.Prelude.{IsSome}
use Rattle.atomic_table.specs.Seated.{TableId}
use Rattle.cod_board.specs.declared.kill.Kill.{Kill}
use Rattle.cod_board.specs.declared.view.View.{View}
use Rattle.cod_board.specs.Words.{after_kill, known, word_of, kill_in, in_word}
use Rattle.cod_board.specs.Seats.{Seated}
use Rattle.cod_board.proofs.Found.{word_line, kill_in_word}
use Rattle.cod_board.proofs.Keeps.{kills}
use Rattle.cod_board.proofs.Sitting.{changed, still_sits, kill_some}
use Rattle.cod_board.proofs.shared.SharedBoard.kill.Goals as goal

pub compare_exchange-before-requires : goal.compare_exchange-before-requires
compare_exchange-before-requires c =
    let board = ap (λ (s : Seated). s.of) c.seat.view_is ∙ (c.requires.board ∙ sym c.self.view_is) in
    let node : c.args.node.0 < c.self.inside.table.shared.table_id.words = subst (λ (z : TableId). c.args.node.0 < z.words) (sym c.self.view_is) c.requires.node in
    let wide = c.self.invariant.0 in
    let line = c.requires.line in
    (board, node, kills _ _ _ _ _ _ c.seat.invariant.1 (omega arith) (omega arith))

pub invariant_of-seat : goal.invariant_of-seat
invariant_of-seat c =
    let f = c.compare_exchange-before in
    still_sits _ c.seat.inside.seat f.new.seat f.ensures.2.0 (kill_some c.seat.inside.seat.me.0 c.args.node.0 (kill_in (word_of c.args.kill)) (in_word f.result) c.seat.invariant.1) c.seat.invariant

pub returns-clause-seat : goal.returns-clause-seat
returns-clause-seat c =
    let f = c.compare_exchange-before in
    let node : ℕ = c.args.node.0 in
    changed (λ (v : View). after_kill v node (kill_in (word_of c.args.kill)) (in_word f.result)) c.seat.inside.seat f.new.seat c.args.seat.now c.seat.view_is f.ensures.0 f.ensures.2.0
    ∙ (λ i. record { of = c.args.seat.now.of; knows = after_kill c.args.seat.now.knows node (kill_in_word c.args.kill (omega arith) i) ((sym c.kill_in.ensures) i) })

pub returns-clause-line : goal.returns-clause-line
returns-clause-line c = word_line c.compare_exchange-before.result c.kill_in.result c.compare_exchange-before.ensures.2.1.0 c.kill_in.ensures

pub returns-clause-known : goal.returns-clause-known
returns-clause-known c some =
    let seen = ap (λ (s : Seated). known c.args.node.0 s.knows.seen) c.seat.view_is in
    c.kill_in.ensures ∙ (c.compare_exchange-before.ensures.2.1.1 (subst (λ (o : Option Kill). IsSome o) (sym seen) some) ∙ seen)
