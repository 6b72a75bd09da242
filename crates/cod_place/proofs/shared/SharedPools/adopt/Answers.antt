use Rattle.std.proofs.Common.{◌≡◌, ◌<◌, ◌≤◌, ◌^◌, ◌+◌, ◌-◌, ◌%◌, slice_set, slice_index, ℕ, List, [], ◌∷◌, Some, length, sym, ap, ◌∙◌, subst, refl, arith}
use Rattle.cod_place.specs.declared.view.View.{View}
use Rattle.cod_place.specs.Room.{Room}
use Rattle.cod_place.specs.Free.{Seated, Pooled, Counted, at_node, less, after_first}
use Rattle.cod_place.proofs.Keeps.{stages, splits_first}
use Rattle.cod_place.proofs.Accounts.{counted_less}
use Rattle.cod_place.proofs.shared.SharedPools.adopt.Goals as goal

pub compare_exchange-requires : goal.compare_exchange-requires
compare_exchange-requires c =
    let pools = ap (λ (s : Seated). s.of) c.seat.view_is ∙ (c.requires.pools ∙ sym (ap (λ (p : Pooled). p.of) c.self.view_is)) in
    let words = ap (λ (p : Pooled). p.of.words) c.self.view_is in
    let node = ap (λ (x : Room). x.node.0) c.room.view_is in
    let inside = c.requires.node in
    let has : c.room.inside.bytes ≤ at_node c.room.inside.node.0 c.seat.inside.seat.me.0.bytes = subst (λ (z : Seated × Room). z.1.bytes ≤ at_node z.1.node.0 z.0.bytes)
    (λ i. (sym c.seat.view_is i, sym c.room.view_is i)) c.requires.bytes in
    (pools, omega arith, stages _ _ _ _ c.room.inside.node.0 c.room.inside.bytes has)

pub split_seat-own-requires : goal.split_seat-own-requires
split_seat-own-requires c =
    (c.compare_exchange.ensures.0 ∙ (ap (λ (s : Seated). s.of) c.seat.view_is ∙ (c.requires.pools ∙ sym (ap (λ (p : Pooled). p.of) c.self.view_is))), c.self.invariant.1, splits_first _ _ _)

pub invariant_of-seat : goal.invariant_of-seat
invariant_of-seat c =
    let me = c.split_seat-own.ensures.2 ∙ ap (λ m. (after_first m.0, m.1)) c.compare_exchange.ensures.2 in
    let has : c.room.inside.bytes ≤ at_node c.room.inside.node.0 c.seat.inside.seat.me.0.bytes = subst (λ (z : Seated × Room). z.1.bytes ≤ at_node z.1.node.0 z.0.bytes)
    (λ i. (sym c.seat.view_is i, sym c.room.view_is i)) c.requires.bytes in
    let node = ap (λ (x : Room). x.node.0) c.room.view_is in
    let words = ap (λ (p : Pooled). p.of.words) c.self.view_is in
    let inside = c.requires.node in
    let most = c.self.invariant.2 in
    let counts : List ℕ = slice_set c.seat.inside.counts c.room.inside.node.0 ((slice_index c.seat.inside.counts c.room.inside.node.0 + (2 ^ 64 - c.room.inside.bytes)) % 2 ^ 64) in (
      ap (λ m. m.1) me ∙ c.seat.invariant.0,
      subst (λ (b : List (ℕ × ℕ)). Counted counts b) (sym (ap (λ m. m.0.bytes) me)) (counted_less c.seat.inside.counts c.seat.inside.seat.me.0.bytes c.room.inside.node.0 c.room.inside.bytes _
          (omega arith) (omega arith) has refl c.seat.invariant.1),
    )
