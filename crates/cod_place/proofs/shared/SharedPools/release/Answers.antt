use Rattle.std.proofs.Common.{◌≡◌, ◌<◌, ◌≤◌, ◌^◌, ◌+◌, ◌%◌, slice_set, slice_index, ℕ, List, [], ◌∷◌, ◌++◌, Some, length, sym, ap, ◌∙◌, subst, refl, arith}
use Rattle.cod_place.specs.declared.view.View.{View}
use Rattle.cod_place.specs.Room.{Room, room_view}
use Rattle.cod_place.specs.Free.{Seated, Pooled, Counted, both_of}
use Rattle.cod_place.proofs.Keeps.{joins, one_same}
use Rattle.cod_place.proofs.Accounts.{counted_more}
use Rattle.cod_place.proofs.Badges.{room_in, badge_views}
use Rattle.cod_place.proofs.shared.SharedPools.release.Goals as goal

pub join_seat-requires : goal.join_seat-requires
join_seat-requires c =
    let pools = sym (ap (λ (p : Pooled). p.of) c.self.view_is) in
    let r = room_in c.args.self.now.of c.args.room.now c.requires.room in
    let b = badge_views c.room.inside.node.0 c.room.inside.bytes c.room.inside.badge.views c.room.inside.badge.table_id c.args.self.now.of c.room.invariant
    (ap (λ (x : Room). x.of) c.room.view_is ∙ r.0) in
    let out = c.replace-badge.ensures.value in (
      ap (λ (s : Seated). s.of) c.seat.view_is ∙ (c.requires.pools ∙ pools),
      c.into_seat.ensures.0 ∙ (ap (λ x. x.table_id) out ∙ (b.1 ∙ pools)),
      c.into_seat.ensures.3,
      c.self.invariant.1,
      joins _ _ _ _ _,
    )

pub invariant_of-seat : goal.invariant_of-seat
invariant_of-seat c =
    let r = room_in c.args.self.now.of c.args.room.now c.requires.room in
    let b = badge_views c.room.inside.node.0 c.room.inside.bytes c.room.inside.badge.views c.room.inside.badge.table_id c.args.self.now.of c.room.invariant
    (ap (λ (x : Room). x.of) c.room.view_is ∙ r.0) in
    let out = c.replace-badge.ensures.value in
    let is = one_same c.into_seat.result.me.0 (room_view c.room.inside.node.0 c.room.inside.bytes) (sym c.into_seat.ensures.2 ∙ (ap (λ x. x.views) out ∙ b.0)) in
    let me = c.join_seat.ensures.2 ∙ ap (λ (v : View). (both_of c.seat.inside.seat.me.0 v, c.seat.inside.seat.me.1)) is in
    let node = ap (λ (x : Room). x.node.0) c.room.view_is in
    let words = ap (λ (p : Pooled). p.of.words) c.self.view_is in
    let inside = r.1 in
    let most = c.self.invariant.2 in
    let counts : List ℕ = slice_set c.seat.inside.counts c.room.inside.node.0 ((slice_index c.seat.inside.counts c.room.inside.node.0 + c.room.inside.bytes) % 2 ^ 64) in (
      ap (λ m. m.1) me ∙ c.seat.invariant.0,
      subst (λ (x : List (ℕ × ℕ)). Counted counts x) (sym (ap (λ m. m.0.bytes) me)) (counted_more c.seat.inside.counts c.seat.inside.seat.me.0.bytes c.room.inside.node.0 c.room.inside.bytes _
          (omega arith) refl c.seat.invariant.1),
    )
