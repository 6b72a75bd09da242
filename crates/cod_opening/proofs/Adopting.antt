-- The rooms of all segments, one segment after another.
use Rattle.std.proofs.Common.{◌≡◌, inl, inr, ℕ, zero, suc, ◌+◌, ◌<◌, ◌≤◌, List, [], ◌∷◌, ◌++◌, Option, length, map, take, set, refl, sym, ap, ◌∙◌, ext_get_or, length-set, append-nil, arith}
use Rattle.std.proofs.lemmas.Bool.{cases_eq}
use Rattle.std.proofs.lemmas.List.{get_or-map, length-map, take_more}
use Rattle.std.proofs.lemmas.List.Concat.{flat_map-append}
use Rattle.std.proofs.lemmas.List.Sums.{sum_by-append}
use Rattle.atomic_table.specs.Seated.{TableId}
use Rattle.cod_place.specs.Free.{at_node, Seated}
use Rattle.cod_place.specs.Room.{Room}
use Rattle.cod_place.specs.Rooms.{bytes_on}
use Rattle.cod_place.proofs.Rooms.{part}
use Rattle.cod_seg.specs.Pools.{owned}
use Rattle.cod_seg.specs.Seg.{Seg}
use Rattle.cod_segment.specs.Events.{rooms_of}
use Rattle.cod_stripe.specs.Sharing.{Without}
use Rattle.cod_advance.specs.Worlds.{no_seg, seg_at}
use Rattle.cod_homes.specs.Building.{all_rooms}

-- the first segments' rooms have badges
pub record AdoptedUpTo (of : Option TableId) (at : ℕ) (old now : List Seg) : Type 0 where
  pub size : length now ≡ length old
  pub done : (i : ℕ) → i < at → seg_at now i ≡ owned of (seg_at old i)
  pub left : (i : ℕ) → at ≤ i → seg_at now i ≡ seg_at old i

-- the rooms of the first segments, and the next one's
next_rooms : (node i : ℕ) (segs : List Seg) → i < length segs
    → bytes_on node (all_rooms (take (i + 1) segs)) ≡ bytes_on node (all_rooms (take i segs)) + bytes_on node (rooms_of (seg_at segs i))
next_rooms node i segs low =
    let f = flat_map-append rooms_of (take i segs) (seg_at segs i ∷ []) in
    let n = append-nil (rooms_of (seg_at segs i)) in
    ap (λ (l : List Seg). bytes_on node (all_rooms l)) (take_more segs i no_seg low)
    ∙ ap (bytes_on node) (f ∙ ap (λ (l : List Room). all_rooms (take i segs) ++ l) n)
    ∙ sum_by-append (part node) (all_rooms (take i segs)) (rooms_of (seg_at segs i))

-- they are no more than all
front_rooms : (node i : ℕ) (segs : List Seg) → bytes_on node (all_rooms (take i segs)) ≤ bytes_on node (all_rooms segs)
front_rooms node zero segs = omega arith
front_rooms node (suc i) [] = omega arith
front_rooms node (suc i) (s ∷ segs) =
    let a = sum_by-append (part node) (rooms_of s) (all_rooms (take i segs)) in
    let b = sum_by-append (part node) (rooms_of s) (all_rooms segs) in
    let h = front_rooms node i segs in
    omega (arith, a, b, h)

-- the seat has bytes for the next segment's rooms
pub has_rooms : (i : ℕ) (segs : List Seg) (seat mid : Seated) → i < length segs → Without (all_rooms (take i segs)) seat mid
    → ((node : ℕ) → bytes_on node (all_rooms segs) ≤ at_node node seat.bytes) → (node : ℕ) → bytes_on node (rooms_of (seg_at segs i)) ≤ at_node node mid.bytes
has_rooms i segs seat mid low without enough node =
    let w = without.bytes node in
    let n = next_rooms node i segs low in
    let f = front_rooms node (i + 1) segs in
    let e = enough node in
    omega (arith, w, n, f, e)

pub adopted_none : (of : Option TableId) (segs : List Seg) → AdoptedUpTo of 0 segs segs
adopted_none of segs = record { size = refl; done = λ i low. absurd (omega (arith, low)); left = λ i high. refl }

pub without_none : (seat : Seated) (segs : List Seg) → Without (all_rooms (take 0 segs)) seat seat
without_none seat segs = record { of = refl; looks = refl; bytes = λ node. omega arith }

pub without_more : (i : ℕ) (segs : List Seg) (seat mid now : Seated) → i < length segs → Without (all_rooms (take i segs)) seat mid → Without (rooms_of (seg_at segs i)) mid now
    → Without (all_rooms (take (i + 1) segs)) seat now
without_more i segs seat mid now low a b = record {
  of = b.of ∙ a.of;
  looks = b.looks ∙ a.looks;
  bytes = λ node. (let x = a.bytes node in let y = b.bytes node in let n = next_rooms node i segs low in omega (arith, x, y, n));
}

seg_here : (segs : List Seg) (i : ℕ) (s : Seg) → i < length segs → seg_at (set segs i s) i ≡ s
seg_here [] i s low = absurd (omega (arith, low))
seg_here (x ∷ xs) zero s low = refl
seg_here (x ∷ xs) (suc i) s low = seg_here xs i s (omega (arith, low))

seg_there : (segs : List Seg) (i j : ℕ) (s : Seg) → (j ≡ i → ⊥) → seg_at (set segs i s) j ≡ seg_at segs j
seg_there [] i j s other = refl
seg_there (x ∷ xs) zero zero s other = absurd (other refl)
seg_there (x ∷ xs) zero (suc j) s other = refl
seg_there (x ∷ xs) (suc i) zero s other = refl
seg_there (x ∷ xs) (suc i) (suc j) s other = seg_there xs i j s (λ e. other (ap suc e))

pub adopted_more : (of : Option TableId) (i : ℕ) (old now : List Seg) (s : Seg) → i < length old → AdoptedUpTo of i old now → s ≡ owned of (seg_at now i)
    → AdoptedUpTo of (i + 1) old (set now i s)
adopted_more of i old now s low to is = record {
  size = length-set now i s ∙ to.size;
  done = λ j below. elim (cases_eq j i) [
    | inl same ↦ ap (seg_at (set now i s)) same ∙ seg_here now i s (let z = to.size in omega (arith, low, z)) ∙ is ∙ ap (owned of) (to.left i (omega arith))
        ∙ ap (λ (k : ℕ). owned of (seg_at old k)) (sym same)
    | inr other ↦ seg_there now i j s other ∙ to.done j (omega (arith, below, other))
  ];
  left = λ j above. seg_there now i j s (λ e. omega (arith, e, above)) ∙ to.left j (omega (arith, above));
}

pub adopted_all : (of : Option TableId) (n : ℕ) (old now : List Seg) → n ≡ length old → AdoptedUpTo of n old now → now ≡ map (owned of) old
adopted_all of n old now all to = ext_get_or no_seg now (map (owned of) old) (to.size ∙ sym (length-map old (owned of)))
    (λ i low. let s = to.size in to.done i (omega (arith, low, all, s)) ∙ sym (get_or-map (owned of) old i no_seg no_seg (omega (arith, low, s))))
