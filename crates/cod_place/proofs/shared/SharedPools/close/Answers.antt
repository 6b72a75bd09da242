use Rattle.std.proofs.Common.{◌≡◌, ◌<◌, ◌≤◌, ◌^◌, ◌-◌, ◌+◌, ℕ, List, [], ◌∷◌, length, slice_index, sym, ap, ◌∙◌, subst, refl, arith}
use Rattle.std.specs.Slots.{slots_items, slots_counts, slots_len}
use Rattle.cod_place.specs.Rooms.{Store}
use Rattle.cod_place.specs.Free.{Seated, Pooled, at_node}
use Rattle.cod_place.proofs.Keeps.{ends}
use Rattle.cod_place.proofs.Accounts.{ClosedUpTo, closed_more, exact}
use Rattle.cod_place.proofs.shared.SharedPools.close.Goals as goal

pub overflow_cast-counts : goal.overflow_cast-counts
overflow_cast-counts c =
    let e = ends _ _ _ _ _ c.close_with-closed.ensures.values.2 in
    let node : ℕ = c.loop-node.node in
    let items = (slots_counts c.close_with-closed.result.words).0 in
    let words = c.close_with-closed.ensures.counts.0 in
    let test = c.loop-node-test.true in
    let size = c.len-node-end.ensures in
    let kept = ap (λ (s : Store). length s.free) c.kept.view_is in
    let long = c.self.invariant.4 in
    let most = c.self.invariant.2 in
    let low = e.0 in
    let few : at_node node c.seat.inside.seat.me.0.bytes ≤ c.self.inside.table.shared.key.capacity = e.1 node (omega arith) in
    let is : slice_index c.seat.inside.counts node ≡ at_node node c.seat.inside.seat.me.0.bytes = exact c.seat.inside.counts c.seat.inside.seat.me.0.bytes node c.self.inside.table.shared.key.capacity
    (omega arith) few (omega arith) c.seat.invariant.1 in
    let key = c.self.invariant.0 in
    let mine = ap (λ (p : Pooled). p.capacity) c.self.view_is in
    let now = c.loop-node.invariant.0 in
    omega arith

pub overflow_sub-kept-inside : goal.overflow_sub-kept-inside
overflow_sub-kept-inside c =
    let e = ends _ _ _ _ _ c.close_with-closed.ensures.values.2 in
    let node : ℕ = c.loop-node.node in
    let items = (slots_counts c.close_with-closed.result.words).0 in
    let words = c.close_with-closed.ensures.counts.0 in
    let test = c.loop-node-test.true in
    let size = c.len-node-end.ensures in
    let kept = ap (λ (s : Store). length s.free) c.kept.view_is in
    let long = c.self.invariant.4 in
    let most = c.self.invariant.2 in
    let low = e.0 in
    let few : at_node node c.seat.inside.seat.me.0.bytes ≤ c.self.inside.table.shared.key.capacity = e.1 node (omega arith) in
    let is : slice_index c.seat.inside.counts node ≡ at_node node c.seat.inside.seat.me.0.bytes = exact c.seat.inside.counts c.seat.inside.seat.me.0.bytes node c.self.inside.table.shared.key.capacity
    (omega arith) few (omega arith) c.seat.invariant.1 in
    let key = c.self.invariant.0 in
    let mine = ap (λ (p : Pooled). p.capacity) c.self.view_is in
    let now = c.loop-node.invariant.0 in
    omega arith

pub loop-node-preserved : goal.loop-node-preserved
loop-node-preserved c =
    let e = ends _ _ _ _ _ c.close_with-closed.ensures.values.2 in
    let node : ℕ = c.loop-node.node in
    let items = (slots_counts c.close_with-closed.result.words).0 in
    let words = c.close_with-closed.ensures.counts.0 in
    let test = c.loop-node-test.true in
    let size = c.len-node-end.ensures in
    let kept = ap (λ (s : Store). length s.free) c.kept.view_is in
    let long = c.self.invariant.4 in
    let most = c.self.invariant.2 in
    let low = e.0 in
    let few : at_node node c.seat.inside.seat.me.0.bytes ≤ c.self.inside.table.shared.key.capacity = e.1 node (omega arith) in
    let is : slice_index c.seat.inside.counts node ≡ at_node node c.seat.inside.seat.me.0.bytes = exact c.seat.inside.counts c.seat.inside.seat.me.0.bytes node c.self.inside.table.shared.key.capacity
    (omega arith) few (omega arith) c.seat.invariant.1 in
    let key = c.self.invariant.0 in
    let mine = ap (λ (p : Pooled). p.capacity) c.self.view_is in
    let now = c.loop-node.invariant.0 in
    let has = ap (λ (s : Seated). at_node node s.bytes) c.seat.view_is in
    let nodes = ap (λ (p : Pooled). p.of.words) c.self.view_is in (
      now,
      closed_more c.args.self.capacity c.args.self.of.words c.args.seat.bytes c.loop-node.kept-inside.free.items node (c.loop-node.kept-inside.capacity - slice_index c.seat.inside.counts node)
          (omega arith) (omega arith) c.loop-node.invariant.1,
    )
