use Rattle.std.proofs.Common.{◌≡◌, ◌<◌, ℕ, sym, ap, ◌∙◌, subst, length, length-set, arith}
use Rattle.std.specs.Slots.{slots_items}
use Rattle.atomic_table.specs.Seated.{TableId}
use Rattle.cod_board.specs.declared.view.View.{View}
use Rattle.cod_board.specs.Words.{in_word}
use Rattle.cod_board.specs.Seats.{Seated, IsClosed}
use Rattle.cod_board.proofs.Keeps.{ends, Ended}
use Rattle.cod_board.proofs.Closing.{IsRead, read_more, read_at, is_closed}
use Rattle.cod_board.proofs.shared.SharedBoard.close.Goals as goal

pub loop-node-preserved : goal.loop-node-preserved
loop-node-preserved c =
    let words = slots_items c.close_with-closed.result.words in
    let kills = c.loop-node.kills.items in
    let long = c.loop-node.invariant.1 in
    let inside : c.loop-node.node < length kills = omega (arith, c.loop-node-test.true, long) in (
      read_more words kills c.loop-node.node c.kill_in.result inside (c.kill_in.ensures ∙ ap in_word (sym (read_at words c.loop-node.node c.word.result c.word.ensures))) c.loop-node.invariant.0,
      length-set kills c.loop-node.node c.kill_in.result ∙ long,
    )

pub returns : goal.returns
returns c =
    let words = slots_items c.close_with-closed.result.words in
    let v : View = c.seat.inside.seat.me.0 in
    let n : ℕ = c.args.self.words in
    let key = c.self.invariant.0 ∙ ap (λ (z : TableId). z.words) c.self.view_is in
    let all : length v.numbers ≡ 65536 = ap (λ (s : Seated). length s.knows.numbers) c.seat.view_is ∙ c.requires.all in
    let e = ends _ _ v words _ all c.close_with-closed.ensures.values.2 in
    let end : Ended n v words = subst (λ (k : ℕ). Ended k v words) key e in
    let last = c.loop-node.auto.node-end in
    let over = c.loop-node-test.false in
    let nodes : c.word_count-nodes.result ≡ n = c.word_count-nodes.ensures ∙ ap (λ (z : TableId). z.words) c.self.view_is in
    let at_end : c.loop-node.node ≡ n = omega arith in
    let closed : IsClosed n v c.loop-node.kills.items = is_closed n v words c.loop-node.kills.items (c.loop-node.invariant.1 ∙ nodes) end
    (subst (IsRead words c.loop-node.kills.items) at_end c.loop-node.invariant.0) in
    subst (IsClosed n c.args.seat.knows) (sym c.of_kills.ensures) (subst (λ (s : Seated). IsClosed n s.knows c.loop-node.kills.items) c.seat.view_is closed)
