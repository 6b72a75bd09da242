-- Rooms whose badges are gone, and closed pools.
use Rattle.std.proofs.Common.{◌≡◌, ℕ, suc, ◌+◌, ◌<◌, Option, Some, None, List, [], ◌∷◌, ◌++◌, length, map, refl, sym, ap, ◌∙◌, subst, append-nil, arith}
use Rattle.std.specs.Prelude.{All, slice_get, slice_index}
use Rattle.std.specs.Option.{option_map}
use Rattle.std.proofs.lemmas.List.{get_or_default}
use Rattle.std.proofs.lemmas.List.Concat.{flat_map-append}
use Rattle.std.proofs.lemmas.List.Elements.{All-append, All-cons, All-map, All-nil}
use Rattle.std.proofs.lemmas.List.Sums.{sum_by-append, sum_by-cons}
use Rattle.atomic_table.specs.Seated.{TableId}
use Rattle.cod_place.specs.Free.{at_node, Seated}
use Rattle.cod_place.specs.Room.{Room}
use Rattle.cod_place.specs.Rooms.{AddUp, bytes_on, Store}
use Rattle.cod_place.proofs.Rooms.{part}
use Rattle.cod_seg.specs.Pools.{owned, owned_col, owned_rebuild, owned_room, owned_target}
use Rattle.cod_seg.specs.Seg.{Col, no_col, Rebuilding, Seg, Target}
use Rattle.cod_seg.specs.Sound.{HasTarget, MayRebuild, Sound}
use Rattle.cod_segment.specs.Events.{goal_rooms, rebuild_rooms, rooms_of}
use Rattle.cod_stripe.specs.Sharing.{Without}
use Rattle.cod_stripe.proofs.Rooming.{no_rooms, without_both}
use Rattle.cod_homes.specs.Building.{all_rooms}

-- ---- badges don't matter to how many bytes rooms have

goal_owned : (of : Option TableId) (o : Option Target) → goal_rooms (option_map (owned_target of) o) ≡ map (owned_room of) (goal_rooms o)
goal_owned of None = refl
goal_owned of (Some t) = refl

rebuild_owned : (of : Option TableId) (o : Option Rebuilding) → rebuild_rooms (option_map (owned_rebuild of) o) ≡ map (owned_room of) (rebuild_rooms o)
rebuild_owned of None = refl
rebuild_owned of (Some r) = goal_owned of r.target

bytes_owned : (of : Option TableId) (node : ℕ) (rooms : List Room) → bytes_on node (map (owned_room of) rooms) ≡ bytes_on node rooms
bytes_owned of node [] = refl
bytes_owned of node (room ∷ rooms) =
    let a = sum_by-cons (part node) (owned_room of room) (map (owned_room of) rooms) in
    let b = sum_by-cons (part node) room rooms in
    let rest = bytes_owned of node rooms in
    a ∙ (ap (λ (n : ℕ). part node room + n) rest ∙ sym b)

cols_owned : (of : Option TableId) (cols : List Col) → map (λ (c : Col). c.room) (map (owned_col of) cols) ≡ map (owned_room of) (map (λ (c : Col). c.room) cols)
cols_owned of [] = refl
cols_owned of (c ∷ cols) = ap (λ (rooms : List Room). owned_room of c.room ∷ rooms) (cols_owned of cols)

pub rooms_owned : (of : Option TableId) (s : Seg) (node : ℕ) → bytes_on node (rooms_of (owned of s)) ≡ bytes_on node (rooms_of s)
rooms_owned of s node =
    let goal = bytes_owned of node (rebuild_rooms s.rebuild) in
    let cols = bytes_owned of node (map (λ (c : Col). c.room) s.cols) in
    let a = sum_by-append (part node) (rebuild_rooms (option_map (owned_rebuild of) s.rebuild)) (map (λ (c : Col). c.room) (map (owned_col of) s.cols)) in
    let b = sum_by-append (part node) (rebuild_rooms s.rebuild) (map (λ (c : Col). c.room) s.cols) in
    a ∙ (ap (λ (rooms : List Room). bytes_on node rooms + bytes_on node (map (λ (c : Col). c.room) (map (owned_col of) s.cols))) (rebuild_owned of s.rebuild)
    ∙ (ap (λ (n : ℕ). n + bytes_on node (map (λ (c : Col). c.room) (map (owned_col of) s.cols))) goal
    ∙ (ap (λ (rooms : List Room). bytes_on node (rebuild_rooms s.rebuild) + bytes_on node rooms) (cols_owned of s.cols)
    ∙ (ap (λ (n : ℕ). bytes_on node (rebuild_rooms s.rebuild) + n) cols ∙ sym b))))

-- a segment's rooms were given back their bytes, and have no badges any more
pub released : (of : Option TableId) (s now : Seg) (seat rest : Seated) → now ≡ owned of s → Without (rooms_of s) seat rest → Without (rooms_of now) seat rest
released of s now seat rest is without = record {
  of = without.of;
  looks = without.looks;
  bytes = λ node. ap (λ (z : Seg). at_node node rest.bytes + bytes_on node (rooms_of z)) is ∙ (ap (λ (n : ℕ). at_node node rest.bytes + n) (rooms_owned of s node) ∙ without.bytes node);
}

-- ---- segment after segment

pub none_released : (seat : Seated) → Without (all_rooms []) seat seat
none_released seat = no_rooms seat

pub more_released : (values : List Seg) (s : Seg) (seat mid rest : Seated) → Without (all_rooms values) mid rest → Without (rooms_of s) seat mid
    → Without (all_rooms (values ++ s ∷ [])) seat rest
more_released values s seat mid rest all one =
    let rooms : all_rooms (values ++ s ∷ []) ≡ all_rooms values ++ rooms_of s = flat_map-append rooms_of values (s ∷ []) ∙ ap (λ (l : List Room). all_rooms values ++ l) (append-nil (rooms_of s)) in
    subst (λ (l : List Room). Without l seat rest) (sym rooms) (without_both (all_rooms values) (rooms_of s) seat mid rest one all)

-- ---- closed pools

-- the room is on one of so many nodes
abbrev IsInside : ℕ → Room → Type 0
IsInside nodes room = room.node.0 < nodes

goal_inside : (s : Seg) (col : ℕ) (o : Option Target) → HasTarget s.site s.frail s.pools s.log col o → All (IsInside s.site.nodes) (goal_rooms o)
goal_inside s col None is = All-nil (IsInside s.site.nodes)
goal_inside s col (Some t) is = All-cons (IsInside s.site.nodes) t.room [] is.known (All-nil (IsInside s.site.nodes))

rebuild_inside : (s : Seg) (o : Option Rebuilding) → MayRebuild s.site s.frail s.pools s.log o → All (IsInside s.site.nodes) (rebuild_rooms o)
rebuild_inside s None is = All-nil (IsInside s.site.nodes)
rebuild_inside s (Some r) is = goal_inside s r.col r.target is.goal

-- a segment's rooms are on its nodes
rooms_inside : (s : Seg) → Sound s → All (IsInside s.site.nodes) (rooms_of s)
rooms_inside s sound =
    All-append (IsInside s.site.nodes) (rebuild_rooms s.rebuild) (map (λ (c : Col). c.room) s.cols) (rebuild_inside s s.rebuild sound.rebuilt)
    (All-map (IsInside s.site.nodes) (λ (c : Col). c.room) s.cols (λ k d small.
    (let size = sound.columns.size in
    let low : k < s.site.shape.n = omega (arith, small, size) in
    let there = (sound.columns.each k low).there in
    subst (λ (c : Col). c.room.node.0 < s.site.nodes) (get_or_default s.cols k no_col d small) (subst (λ (n : ℕ). n < s.site.nodes) (sym there) (sound.columns.known k low)))))

-- these segments are sound, and have so many nodes
abbrev pub AreSound : ℕ → List Seg → Type 0
AreSound nodes values = (i : ℕ) (s : Seg) → slice_get values i ≡ Some s → Sound s × (s.site.nodes ≡ nodes)

all_inside : (nodes : ℕ) (values : List Seg) → AreSound nodes values → All (IsInside nodes) (all_rooms values)
all_inside nodes [] sound = All-nil (IsInside nodes)
all_inside nodes (s ∷ values) sound =
    let here = sound 0 s refl in
    All-append (IsInside nodes) (rooms_of s) (all_rooms values) (subst (λ (n : ℕ). All (IsInside n) (rooms_of s)) here.1 (rooms_inside s here.0))
    (all_inside nodes values (λ i t is. sound (suc i) t is))

-- What the close of the pools tells of the seat's bytes, it tells of the rooms that were given back to the seat.
pub add_up : (nodes capacity : ℕ) (store : Store) (values : List Seg) (seat rest : Seated) → length store.free ≡ nodes → store.capacity ≡ capacity
    → ((node : ℕ) → node < nodes → slice_index store.free node + at_node node seat.bytes ≡ capacity) → Without (all_rooms values) seat rest
    → ((node : ℕ) → at_node node rest.bytes ≡ 0) → AreSound nodes values → AddUp store (all_rooms values)
add_up nodes capacity store values seat rest size full sums without none sound = record {
  inside = subst (λ (n : ℕ). All (IsInside n) (all_rooms values)) (sym size) (all_inside nodes values sound);
  sums = λ node low.
      (let a = sums node (omega (arith, low, size)) in let b = without.bytes node in let z = none node in omega (arith, a, b, z, full));
}
