-- The rooms of a segment came from the pools whose badges they have.
use Rattle.std.proofs.Common.{◌≡◌, ℕ, ◌<◌, Option, Some, None, [], map, ◌∙◌, subst, arith}
use Rattle.std.proofs.lemmas.List.Elements.{All-append, All-cons, All-from_get_or, All-map, All-nil}
use Rattle.atomic_table.specs.Seated.{TableId}
use Rattle.cod_place.specs.Free.{AreOf}
use Rattle.cod_place.specs.Room.{Room}
use Rattle.cod_seg.specs.Seg.{Col, col_at, no_col, Rebuilding, Seg, Target}
use Rattle.cod_seg.specs.Sound.{Sound, HasTarget, MayRebuild}
use Rattle.cod_segment.specs.Events.{goal_rooms, rebuild_rooms, rooms_of}

abbrev IsOf : TableId → Room → Type 0
IsOf of room = (room.of ≡ Some of) × (room.node.0 < of.words)

module _ (s : Seg) (sound : Sound s) (of : TableId) (owner : s.pools ≡ Some of) (nodes : of.words ≡ s.site.nodes) where
  columns_came : AreOf of (map (λ (c : Col). c.room) s.cols)
  columns_came =
      let cols = sound.columns in
      let size = cols.size in
      All-map (IsOf of) (λ (c : Col). c.room) s.cols (All-from_get_or (λ (c : Col). IsOf of c.room) s.cols no_col
      (λ i lt.
      let small : i < s.site.shape.n = subst (λ (n : ℕ). i < n) size lt in
      let c = cols.each i small in
      let there = c.there in
      let known = cols.known i small in
      (c.owned ∙ owner, (let x : (col_at s.cols i).room.node.0 < of.words = omega arith in x))))

  goal_came : (col : ℕ) (t : Option Target) → HasTarget s.site s.frail s.pools s.log col t → AreOf of (goal_rooms t)
  goal_came col None has = All-nil (IsOf of)
  goal_came col (Some t) has = let known = has.known in All-cons (IsOf of) t.room [] (has.owned ∙ owner, omega arith) (All-nil (IsOf of))

  rebuild_came : (r : Option Rebuilding) → MayRebuild s.site s.frail s.pools s.log r → AreOf of (rebuild_rooms r)
  rebuild_came None may = All-nil (IsOf of)
  rebuild_came (Some r) may = goal_came r.col r.target may.goal

  pub rooms_came : AreOf of (rooms_of s)
  rooms_came = All-append (IsOf of) (rebuild_rooms s.rebuild) (map (λ (c : Col). c.room) s.cols) (rebuild_came s.rebuild sound.rebuilt) columns_came
