use Rattle.std.proofs.Common.{◌≡◌, ◌<◌, ◌≤◌, ℕ, ◌-◌, List, [], ◌∷◌, Some, sym, ap, ◌∙◌, subst, refl, arith}
use Rattle.cod_place.specs.declared.view.View.{View}
use Rattle.cod_place.specs.Room.{Room, room_view}
use Rattle.cod_place.specs.Free.{Pooled}
use Rattle.cod_place.proofs.Keeps.{gives_back, one_same}
use Rattle.cod_place.proofs.Badges.{room_in, badge_views}
use Rattle.cod_place.proofs.shared.SharedPools.trim.Goals as goal

pub fetch_add-requires : goal.fetch_add-requires
fetch_add-requires c =
    let r = room_in c.args.self.now.of c.args.room.now c.requires.room in
    let b = badge_views c.room.inside.node.0 c.room.inside.bytes c.room.inside.badge.views c.room.inside.badge.table_id c.args.self.now.of c.room.invariant
    (ap (λ (x : Room). x.of) c.room.view_is ∙ r.0) in
    let out = c.replace.ensures.value in
    let is = one_same c.into_seat-own.result.me.0 (room_view c.room.inside.node.0 c.room.inside.bytes) (sym c.into_seat-own.ensures.2 ∙ (ap (λ x. x.views) out ∙ b.0)) in
    let words = ap (λ (p : Pooled). p.of.words) c.self.view_is in
    let node = ap (λ (x : Room). x.node.0) c.room.view_is in
    let bytes = ap (λ (x : Room). x.bytes) c.room.view_is in
    let inside = r.1 in
    let within = c.requires.within in (
      c.into_seat-own.ensures.0 ∙ (ap (λ x. x.table_id) out ∙ (b.1 ∙ sym (ap (λ (p : Pooled). p.of) c.self.view_is))),
      omega arith,
      gives_back _ _ _ _ c.room.inside.node.0 c.args.bytes c.room.inside.bytes is (omega arith),
    )
