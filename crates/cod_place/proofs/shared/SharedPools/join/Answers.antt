use Rattle.std.proofs.Common.{rules, ◌≡◌, ◌<◌, ◌≤◌, ℕ, List, [], ◌∷◌, ◌++◌, Some, None, length, sym, ap, ◌∙◌, subst, refl, arith}
use Rattle.cod_place.specs.declared.view.View.{View}
use Rattle.cod_place.specs.Free.{Seated, Pooled, Counted, at_node, less, after_first}
use Rattle.cod_place.proofs.Keeps.{joins}
use Rattle.cod_place.proofs.Accounts.{counted_both}
use Rattle.cod_place.proofs.shared.SharedPools.join.Goals as goal

pub join_seat-requires : goal.join_seat-requires
join_seat-requires c =
    let pools = sym (ap (λ (p : Pooled). p.of) c.self.view_is) in (
      ap (λ (s : Seated). s.of) c.seat.view_is ∙ (c.requires.pools.0 ∙ pools),
      ap (λ (s : Seated). s.of) c.other.view_is ∙ (c.requires.pools.1 ∙ pools),
      c.other.invariant.0,
      c.self.invariant.1,
      joins _ _ _ _ _,
    )

pub invariant_of-seat : goal.invariant_of-seat
invariant_of-seat c =
    let inv = c.loop-node.invariant in
    let me = ap (λ s. s.me) inv.0 ∙ c.join_seat.ensures.2 in
    let over = c.loop-node-test.false in (
      ap (λ m. m.1) me ∙ c.seat.invariant.0,
      subst (λ (b : List (ℕ × ℕ)). Counted c.loop-node.seat-inside.counts b) (sym (ap (λ m. m.0.bytes) me))
          (counted_both c.seat.inside.counts c.loop-node.seat-inside.counts c.other.inside.counts c.seat.inside.seat.me.0.bytes c.other.inside.seat.me.0.bytes c.loop-node.node
          (omega arith) inv.1 c.seat.invariant.1 c.other.invariant.1),
    )
