-- New segments, one after another, and their rooms.
use Rattle.std.proofs.Common.{◌≡◌, inl, inr, ℕ, zero, suc, ◌+◌, ◌-◌, ◌<◌, ◌≤◌, Bool, cond, List, [], ◌∷◌, ◌++◌, length, map, get_or, replicate, refl, sym, ap, ◌∙◌, subst, append-nil, length-append, arith}
use Rattle.std.specs.Prelude.{IsPermutation, nat_eq, slice_index, sum}
use Rattle.std.specs.List.{range_with_len, sum_by}
use Rattle.std.proofs.Math.Seq.{get_or-append_seam}
use Rattle.std.proofs.lemmas.Bool.{cases_eq, eq-eqb}
use Rattle.std.proofs.lemmas.List.{ext_get_or, get_or-map, get_or-replicate, get_or_append_left, length-map, length-replicate}
use Rattle.std.proofs.lemmas.List.Concat.{flat_map-append}
use Rattle.std.proofs.lemmas.List.FromFn.{get_or-range_with_len, length-range_with_len}
use Rattle.std.proofs.lemmas.List.Elements.{All-nil}
use Rattle.std.proofs.lemmas.List.Sorted.{All-permutation, IsPermutation-append_comm, sum_by-IsPermutation}
use Rattle.std.proofs.lemmas.List.Sums.{get_or-le-sum_by, sum-map, sum_by-append, sum_by-cons}
use Rattle.std.proofs.lemmas.Nat.{mod_below}
use Rattle.cod_types.specs.Columns.{column_size, home_of}
use Rattle.cod_types.specs.Limits.{Shape}
use Rattle.cod_region.specs.Device.{AllRegions}
use Rattle.cod_chronicle.specs.Said.{Site}
use Rattle.cod_place.specs.Room.{Room}
use Rattle.cod_place.specs.Rooms.{AddUp, bytes_on, Store}
use Rattle.cod_place.proofs.Rooms.{part}
use Rattle.cod_script.specs.Room.{column_on, taken_by, taken_on}
use Rattle.cod_script.specs.Script.{Script}
use Rattle.cod_script.specs.Sound.{IsScenario}
use Rattle.cod_script.proofs.RoomSums.{taken_on_more, taken_on_none}
use Rattle.cod_seg.specs.Seg.{Col, col_at, no_col, Seg}
use Rattle.cod_segment.specs.Events.{rooms_of}
use Rattle.cod_stripe.specs.Building.{HomesHaveRoom}
use Rattle.cod_advance.specs.Worlds.{no_seg, seg_at}
use Rattle.cod_homes.specs.Building.{all_rooms, AreBuilt, IsBuilt}

zero_add : (n : ℕ) → 0 + n ≡ n
zero_add n = omega arith

rest_of_number : (a b : ℕ) → a ≤ b → (d : ℕ) × (a + d ≡ b)
rest_of_number a b le = (b - a, omega (arith, le))

sum_by-map : {X Y : Type 0} (f : Y → ℕ) (g : X → Y) (xs : List X) → sum_by f (map g xs) ≡ sum_by (λ x. f (g x)) xs
sum_by-map f g [] = refl
sum_by-map f g (x ∷ xs) = sum_by-cons f (g x) (map g xs) ∙ ap (λ n. f (g x) + n) (sum_by-map f g xs) ∙ sym (sum_by-cons (λ y. f (g y)) x xs)

-- ---- a new segment's rooms

pub rooms_are : (x : Script) (regions : AllRegions) (i : ℕ) (s : Seg) → IsBuilt x regions i s → rooms_of s ≡ map (λ (c : Col). c.room) s.cols
rooms_are x regions i s is = ap rooms_of is.new.begins

-- the bytes of a column that lie on a node
column_bytes : (x : Script) (regions : AllRegions) (seg : ℕ) (s : Seg) (node i : ℕ) → IsBuilt x regions seg s → i < x.shape.n
    → part node (col_at s.cols i).room ≡ column_on x.shape x.nodes node seg i
unfolding column_on
column_bytes x regions seg s node i is small =
    let site = is.site in
    let c = is.new.each i (subst (λ (n : ℕ). i < n) (sym (ap (λ (w : Site). w.shape.n) site)) small) in
    let home : (col_at s.cols i).room.node.0 ≡ home_of seg i x.nodes = c.home ∙ ap (λ (w : Site). home_of w.segment i w.nodes) site in
    let long : (col_at s.cols i).room.bytes ≡ column_size x.shape i = c.room ∙ c.long ∙ ap (λ (w : Site). column_size w.shape i) site in
    ap (λ (n : ℕ). cond (nat_eq n node) (col_at s.cols i).room.bytes 0) home ∙ ap (λ (n : ℕ). cond (nat_eq (home_of seg i x.nodes) node) n 0) long

segment_bytes : (x : Script) (regions : AllRegions) (seg : ℕ) (s : Seg) (node : ℕ) → IsBuilt x regions seg s → bytes_on node (rooms_of s) ≡ taken_by x.shape x.nodes node seg
unfolding taken_by
segment_bytes x regions seg s node is =
    let count : length s.cols ≡ x.shape.n = is.new.size ∙ ap (λ (w : Site). w.shape.n) is.site in
    let f = λ (c : Col). part node c.room in
    let g = column_on x.shape x.nodes node seg in
    let range = range_with_len 0 x.shape.n in
    let long = length-range_with_len 0 x.shape.n in
    let same : map f s.cols ≡ map g range =
    ext_get_or 0 (map f s.cols) (map g range) (length-map s.cols f ∙ count ∙ sym long ∙ sym (length-map range g))
    (λ i small.
    let below : i < x.shape.n = (let l = length-map s.cols f in omega (arith, small, l, count)) in
    get_or-map f s.cols i no_col 0 (omega (arith, below, count)) ∙ column_bytes x regions seg s node i is below
    ∙ ap g (sym (get_or-range_with_len 0 x.shape.n i 0 below ∙ zero_add i)) ∙ sym (get_or-map g range i 0 0 (omega (arith, below, long)))) in
    ap (λ (rooms : List Room). bytes_on node rooms) (rooms_are x regions seg s is) ∙ sum_by-map (part node) (λ (c : Col). c.room) s.cols ∙ sym (sum-map f s.cols)
    ∙ ap sum same ∙ sum-map g range

-- ---- one segment more

all_more : (segs : List Seg) (s : Seg) → all_rooms (segs ++ s ∷ []) ≡ all_rooms segs ++ rooms_of s
all_more segs s = flat_map-append rooms_of segs (s ∷ []) ∙ ap (λ (l : List Room). all_rooms segs ++ l) (append-nil (rooms_of s))

add_up_order : (store : Store) (rooms others : List Room) → IsPermutation rooms others → AddUp store rooms → AddUp store others
add_up_order store rooms others order adds = record {
  inside = All-permutation (λ (room : Room). room.node.0 < length store.free) rooms others order adds.inside;
  sums = λ node there. let e = sum_by-IsPermutation (part node) rooms others order in let w = adds.sums node there in omega (arith, e, w);
}

pub built_none : (x : Script) (regions : AllRegions) (pools : Store) → pools ≡ record { capacity = x.capacity; free = replicate x.nodes x.capacity } → AreBuilt x regions 0 [] pools
built_none x regions pools is = record {
  size = refl;
  each = λ i small. absurd (omega (arith, small));
  sums = subst (λ (p : Store). AddUp p []) (sym is) (record {
    inside = All-nil _;
    sums = λ node there.
        let size = length-replicate x.nodes x.capacity in
        let full : slice_index (replicate x.nodes x.capacity) node ≡ x.capacity = get_or-replicate x.nodes node x.capacity 0 (omega (arith, there, size)) in
        omega (arith, full);
  });
  taken = λ node. sym (taken_on_none x.shape x.nodes node);
  capacity = ap (λ (p : Store). p.capacity) is;
  nodes = ap (λ (p : Store). length p.free) is ∙ length-replicate x.nodes x.capacity;
}

pub built_more : (x : Script) (regions : AllRegions) (count : ℕ) (segs : List Seg) (s : Seg) (old new : Store) → AreBuilt x regions count segs old → IsBuilt x regions count s
    → AddUp new (rooms_of s ++ all_rooms segs) → new.capacity ≡ old.capacity → length new.free ≡ x.nodes → AreBuilt x regions (count + 1) (segs ++ s ∷ []) new
built_more x regions count segs s old new are is adds capacity nodes = record {
  size = (let l = length-append segs (s ∷ []) in let z = are.size in omega (arith, l, z));
  each = λ i small. elim (cases_eq i count) [
    | inl same ↦ subst (λ (j : ℕ). IsBuilt x regions j (seg_at (segs ++ s ∷ []) j)) (sym same)
        (subst (λ (u : Seg). IsBuilt x regions count u) (sym (subst (λ (j : ℕ). seg_at (segs ++ s ∷ []) j ≡ s) are.size (get_or-append_seam segs s [] no_seg))) is)
    | inr diff ↦ (let lower : i < count = omega (arith, small, diff) in let z = are.size in
        subst (λ (u : Seg). IsBuilt x regions i u) (sym (get_or_append_left segs (s ∷ []) no_seg i (omega (arith, lower, z)))) (are.each i lower))
  ];
  sums = subst (AddUp new) (sym (all_more segs s)) (add_up_order new (rooms_of s ++ all_rooms segs) (all_rooms segs ++ rooms_of s) (IsPermutation-append_comm (rooms_of s) (all_rooms segs)) adds);
  taken = λ node.
      let a = ap (λ (l : List Room). bytes_on node l) (all_more segs s) ∙ sum_by-append (part node) (all_rooms segs) (rooms_of s) in
      let b = are.taken node in
      let c = segment_bytes x regions count s node is in
      let d = taken_on_more x.shape x.nodes count node in
      omega (arith, a, b, c, d);
  capacity = capacity ∙ are.capacity;
  nodes = nodes;
}

-- ---- its homes have room

more_taken : (g : Shape) (nodes x a d b : ℕ) → a + d ≡ b → taken_on g nodes a x ≤ taken_on g nodes b x
more_taken g nodes x a zero b e = let s : a ≡ b = omega (arith, e) in rw s (omega arith)
more_taken g nodes x a (suc d) b e =
    let m = more_taken g nodes x (a + 1) d b (omega (arith, e)) in
    let t = taken_on_more g nodes a x in
    omega (arith, m, t)

column_below : (g : Shape) (nodes seg i : ℕ) → i < g.n → column_size g i ≤ taken_by g nodes (home_of seg i nodes) seg
unfolding taken_by column_on
column_below g nodes seg i small =
    let f = column_on g nodes (home_of seg i nodes) seg in
    let range = range_with_len 0 g.n in
    let at : get_or range i 0 ≡ i = get_or-range_with_len 0 g.n i 0 small ∙ zero_add i in
    let le = get_or-le-sum_by f range i 0 (let l = length-range_with_len 0 g.n in omega (arith, small, l)) in
    let is : f (get_or range i 0) ≡ column_size g i =
    ap f at ∙ ap (λ (b : Bool). cond b (column_size g i) 0) (eq-eqb (home_of seg i nodes) (home_of seg i nodes) refl) in
    subst (λ (n : ℕ). n ≤ sum_by f range) is le

pub homes_have_room : (x : Script) (regions : AllRegions) (seg : ℕ) (segs : List Seg) (pools : Store) → IsScenario x → AreBuilt x regions seg segs pools
    → seg < length x.segments → HomesHaveRoom x.shape seg x.nodes 0 pools.free
homes_have_room x regions seg segs pools scenario are there = λ i low small.
    let h = home_of seg i x.nodes in
    let some = scenario.some_nodes in
    let below : h < x.nodes = mod_below (seg + i) x.nodes some in
    let nodes = are.nodes in
    let adds = are.sums.sums h (omega (arith, below, nodes)) in
    let taken = are.taken h in
    let capacity = are.capacity in
    let more = taken_on_more x.shape x.nodes seg h in
    let rest = rest_of_number (seg + 1) (length x.segments) (omega (arith, there)) in
    let most = more_taken x.shape x.nodes h (seg + 1) rest.0 (length x.segments) rest.1 in
    let room = scenario.room h below in
    let column = column_below x.shape x.nodes seg i small in
    omega (arith, adds, taken, capacity, more, most, room, column)
