use Rattle.std.proofs.Common.{◌≡◌, ◌<◌, ◌≤◌, ℕ, List, [], ◌∷◌, length, slice_index, sym, ap, ◌∙◌, subst, refl, arith, replicate}
use Rattle.std.proofs.lemmas.List.{get_or_read}
use Rattle.atomic_table.specs.Table.{opening}
use Rattle.cod_place.specs.Rooms.{Store}
use Rattle.cod_place.specs.Free.{Kept, first_view, Counted, taken_from}
use Rattle.cod_place.proofs.Keeps.{starts}
use Rattle.cod_place.proofs.Accounts.{OpenedUpTo, opened_words, opened_none, opened_counts}
use Rattle.cod_place.proofs.shared.SharedPools.open.Goals as goal

pub of_words-requires : goal.of_words-requires
of_words-requires c =
    let store : Store = c.args.pools in
    let last = c.loop-node.auto.node-end in
    let over = c.loop-node-test.false in
    let size = c.len-node-end.ensures in
    let free = ap (λ (s : Store). length s.free) c.pools.view_is in
    let at_end : c.loop-node.node ≡ length store.free = omega arith in
    let all = subst (OpenedUpTo store c.loop-node.words.items c.loop-node.counts) at_end c.loop-node.invariant in
    let words = c.as_slice.ensures.value ∙ opened_words store c.loop-node.words.items c.loop-node.counts all in
    let low = ap (λ (s : Store). s.capacity) c.pools.view_is in
    subst (λ (ws : List ℕ). Kept store.capacity (opening ws [] (first_view store))) (sym words)
    (starts store (omega arith) (subst (λ (s : Store). (node : ℕ) → node < length s.free → slice_index s.free node ≤ s.capacity) c.pools.view_is c.pools.invariant.2))

pub loop-node-init : goal.loop-node-init
loop-node-init c =
    let store : Store = c.args.pools in
    let count = c.len.ensures in
    let free = ap (λ (s : Store). length s.free) c.pools.view_is in
    let size : c.len.result ≡ length store.free = omega arith in
    let words = c.in_ok-words.ensures.items_if_clones_equal (λ y e. e) ∙ ap (λ (n : ℕ). replicate {A = ℕ} n 0) size in
    subst (λ (ws : List ℕ). OpenedUpTo store ws (replicate 64 0) 0) (sym words) (opened_none store)

pub overflow_sub-counts : goal.overflow_sub-counts
overflow_sub-counts c =
    let node : ℕ = c.loop-node.node in
    let test = c.loop-node-test.true in
    let size = c.len-node-end.ensures in
    let inside : node < length c.pools.inside.free.items = omega arith in
    let is = get_or_read c.pools.inside.free.items node _ inside c.index-in-loop-node.ensures 0 in
    let within = c.pools.invariant.2 node inside in
    omega arith

pub invariant_of-result-in-Ok : goal.invariant_of-result-in-Ok
invariant_of-result-in-Ok c =
    let store : Store = c.args.pools in
    let last = c.loop-node.auto.node-end in
    let over = c.loop-node-test.false in
    let size = c.len-node-end.ensures in
    let free = ap (λ (s : Store). length s.free) c.pools.view_is in
    let at_end : c.loop-node.node ≡ length store.free = omega arith in
    let all = subst (OpenedUpTo store c.loop-node.words.items c.loop-node.counts) at_end c.loop-node.invariant in
    let low = ap (λ (s : Store). s.capacity) c.pools.view_is in
    let me = c.in-Ok.ensures.4 in (
      ap (λ m. m.1) me,
      subst (λ (b : List (ℕ × ℕ)). Counted c.loop-node.counts b) (sym (ap (λ m. m.0.bytes) me)) (opened_counts store c.loop-node.words.items c.loop-node.counts (omega arith) all),
    )
