-- Rooms that come from a seat of shared pools, and go back to one.
use Rattle.std.proofs.Common.{◌≡◌, ◌≢◌, inl, inr, ℕ, zero, suc, ◌+◌, ◌<◌, ◌≤◌, List, [], ◌∷◌, ◌++◌, Bool, cond, Option, length, length-set, map, take, refl, sym, ap, ◌∙◌, subst, eq-eqb, ne_eqb, ext_get_or, arith}
use Rattle.std.proofs.lemmas.Bool.{cases_eq}
use Rattle.std.proofs.lemmas.List.{get_or-map, length-map, map-append, take_more}
use Rattle.std.proofs.lemmas.List.Sums.{sum_by-append, sum_by-cons}
use Rattle.atomic_table.specs.Seated.{TableId}
use Rattle.cod_place.specs.Free.{at_node, less, Seated}
use Rattle.cod_place.specs.Room.{Room}
use Rattle.cod_place.specs.Rooms.{bytes_on}
use Rattle.cod_place.proofs.Keeps.{at_node-append, less_here, less_other}
use Rattle.cod_place.proofs.Rooms.{part}
use Rattle.cod_seg.specs.Pools.{owned_col}
use Rattle.cod_seg.specs.Seg.{Col, col_at, no_col, with_col}
use Rattle.cod_seg.proofs.Keeping.{col_here, col_there}
use Rattle.cod_stripe.specs.Sharing.{column_rooms, OwnedUpTo, Without}

part_here : (room : Room) → part room.node.0 room ≡ room.bytes
part_here room = ap (λ (b : Bool). cond {A = ℕ} b room.bytes 0) (eq-eqb room.node.0 room.node.0 refl)

part_other : (node : ℕ) (room : Room) → node ≢ room.node.0 → part node room ≡ 0
part_other node room other = ap (λ (b : Bool). cond {A = ℕ} b room.bytes 0) (ne_eqb room.node.0 node (λ z. other (sym z)))

-- the bytes of a room, less
less_room : (node : ℕ) (room : Room) (xs : List (ℕ × ℕ)) → room.bytes ≤ at_node room.node.0 xs → at_node node (less room.node.0 room.bytes xs) + part node room ≡ at_node node xs
less_room node room xs within = elim (cases_eq node room.node.0) [
  | inl same ↦ subst (λ (n : ℕ). at_node n (less room.node.0 room.bytes xs) + part n room ≡ at_node n xs) (sym same)
      (let p = part_here room in let l = less_here room.node.0 room.bytes xs within in omega arith)
  | inr other ↦ (let p = part_other node room other in let l = less_other room.node.0 node room.bytes xs other in omega arith)
]

one_room : (node : ℕ) (room : Room) → bytes_on node (room ∷ []) ≡ part node room
one_room node room = let s = sum_by-cons (part node) room [] in omega arith

-- the rooms of the first columns, and the next one's
next_room : (node i : ℕ) (cols : List Col) → i < length cols
    → bytes_on node (column_rooms (take (i + 1) cols)) ≡ bytes_on node (column_rooms (take i cols)) + part node (col_at cols i).room
next_room node i cols low =
    let m = map-append (λ (c : Col). c.room) (take i cols) (col_at cols i ∷ []) in
    let s = sum_by-append (part node) (column_rooms (take i cols)) ((col_at cols i).room ∷ []) in
    let o = one_room node (col_at cols i).room in
    ap (λ (l : List Col). bytes_on node (column_rooms l)) (take_more cols i no_col low) ∙ ap (bytes_on node) m ∙ s
    ∙ ap (λ (n : ℕ). bytes_on node (column_rooms (take i cols)) + n) o

-- the first columns' rooms are no more than all
front_rooms : (node i : ℕ) (cols : List Col) → bytes_on node (column_rooms (take i cols)) ≤ bytes_on node (column_rooms cols)
front_rooms node zero cols = omega arith
front_rooms node (suc i) [] = omega arith
front_rooms node (suc i) (c ∷ cols) =
    let a = sum_by-cons (part node) c.room (column_rooms (take i cols)) in
    let b = sum_by-cons (part node) c.room (column_rooms cols) in
    let h = front_rooms node i cols in
    omega arith

-- the next column's room comes from the seat
pub has_room : (i : ℕ) (cols : List Col) (seat mid : Seated) → i < length cols → Without (column_rooms (take i cols)) seat mid
    → ((node : ℕ) → bytes_on node (column_rooms cols) ≤ at_node node seat.bytes) → (col_at cols i).room.bytes ≤ at_node (col_at cols i).room.node.0 mid.bytes
has_room i cols seat mid low without enough =
    let room = (col_at cols i).room in
    let node = room.node.0 in
    let w = without.bytes node in
    let n = next_room node i cols low in
    let f = front_rooms node (i + 1) cols in
    let e = enough node in
    let p = part_here room in
    omega arith

-- a room was split off
pub adopted_one : (i : ℕ) (cols : List Col) (seat mid now : Seated) → i < length cols → Without (column_rooms (take i cols)) seat mid
    → (col_at cols i).room.bytes ≤ at_node (col_at cols i).room.node.0 mid.bytes
    → now ≡ record mid { bytes = less (col_at cols i).room.node.0 (col_at cols i).room.bytes mid.bytes } → Without (column_rooms (take (i + 1) cols)) seat now
adopted_one i cols seat mid now low without within is = rw is (record {
  of = without.of;
  looks = without.looks;
  bytes = λ node. (let w = without.bytes node in let l = less_room node (col_at cols i).room mid.bytes within in let n = next_room node i cols low in omega arith);
})

-- a room came back
pub released_one : (i : ℕ) (cols : List Col) (seat mid now : Seated) → i < length cols → Without (column_rooms (take i cols)) mid seat
    → now ≡ record mid { bytes = mid.bytes ++ ((col_at cols i).room.node.0, (col_at cols i).room.bytes) ∷ [] } → Without (column_rooms (take (i + 1) cols)) now seat
released_one i cols seat mid now low without is = rw is (record {
  of = without.of;
  looks = without.looks;
  bytes = λ node. (let w = without.bytes node in let a = at_node-append node mid.bytes (((col_at cols i).room.node.0, (col_at cols i).room.bytes) ∷ []) in
      let n = next_room node i cols low in omega arith);
})

-- one more has changed its badge
pub owned_more : (of : Option TableId) (i : ℕ) (old now new : List Col) → i < length old → OwnedUpTo of i old now
    → new ≡ with_col now i (record (col_at now i) { room = record (col_at now i).room { of = of } }) → OwnedUpTo of (i + 1) old new
owned_more of i old now new low to is = rw is (record {
  size = length-set now i (record (col_at now i) { room = record (col_at now i).room { of = of } }) ∙ to.size;
  done = λ j below. elim (cases_eq j i) [
    | inl same ↦ subst (λ (m : ℕ). col_at (with_col now i (owned_col of (col_at now i))) m ≡ owned_col of (col_at old m)) (sym same)
        (col_here now i (owned_col of (col_at now i)) (let s = to.size in omega (arith, low, s)) ∙ ap (owned_col of) (to.left i (omega arith)))
    | inr other ↦ col_there now i j (owned_col of (col_at now i)) other ∙ to.done j (omega (arith, below, other))
  ];
  left = λ j above. col_there now i j (owned_col of (col_at now i)) (λ e. omega (arith, e, above)) ∙ to.left j (omega (arith, above));
})

pub owned_all : (of : Option TableId) (n : ℕ) (old now : List Col) → n ≡ length old → OwnedUpTo of n old now → now ≡ map (owned_col of) old
owned_all of n old now all to = ext_get_or no_col now (map (owned_col of) old) (to.size ∙ sym (length-map old (owned_col of)))
    (λ i low. to.done i (let s = to.size in omega (arith, low, all, s)) ∙ sym (get_or-map (owned_col of) old i no_col no_col (let s = to.size in omega (arith, low, s))))

pub none_owned : (of : Option TableId) (cols : List Col) → OwnedUpTo of 0 cols cols
none_owned of cols = record { size = refl; done = λ i below. absurd (omega (arith, below)); left = λ i above. refl }

pub none_taken : (seat : Seated) (cols : List Col) → Without (column_rooms (take 0 cols)) seat seat
none_taken seat cols = record { of = refl; looks = refl; bytes = λ node. omega arith }

-- ---- one room, and all

pub adopted_room : (room : Room) (seat now : Seated) → room.bytes ≤ at_node room.node.0 seat.bytes → now ≡ record seat { bytes = less room.node.0 room.bytes seat.bytes }
    → Without (room ∷ []) seat now
adopted_room room seat now within is = rw is (record {
  of = refl;
  looks = refl;
  bytes = λ node. (let l = less_room node room seat.bytes within in let o = one_room node room in omega arith);
})

pub released_room : (room : Room) (seat now : Seated) → now ≡ record seat { bytes = seat.bytes ++ (room.node.0, room.bytes) ∷ [] } → Without (room ∷ []) now seat
released_room room seat now is = rw is (record {
  of = refl;
  looks = refl;
  bytes = λ node. (let a = at_node-append node seat.bytes ((room.node.0, room.bytes) ∷ []) in let o = one_room node room in omega arith);
})

-- a room among them is no more than all of them
pub target_within : (room : Room) (rooms : List Room) (seat : Seated) → rooms ≡ room ∷ [] → ((node : ℕ) → bytes_on node rooms ≤ at_node node seat.bytes)
    → room.bytes ≤ at_node room.node.0 seat.bytes
target_within room rooms seat are enough =
    let e = enough room.node.0 in
    let o = ap (bytes_on room.node.0) are ∙ one_room room.node.0 room in
    let p = part_here room in
    omega arith

pub no_rooms : (seat : Seated) → Without [] seat seat
no_rooms seat = record { of = refl; looks = refl; bytes = λ node. omega arith }

-- some rooms first, and then others
pub without_both : (first second : List Room) (seat mid rest : Seated) → Without second seat mid → Without first mid rest → Without (first ++ second) seat rest
without_both first second seat mid rest a b = record {
  of = b.of ∙ a.of;
  looks = b.looks ∙ a.looks;
  bytes = λ node. (let s = sum_by-append (part node) first second in let x = a.bytes node in let y = b.bytes node in omega arith);
}

pub without_both_back : (first second : List Room) (seat mid rest : Seated) → Without second mid rest → Without first seat mid → Without (first ++ second) seat rest
without_both_back first second seat mid rest a b = record {
  of = a.of ∙ b.of;
  looks = a.looks ∙ b.looks;
  bytes = λ node. (let s = sum_by-append (part node) first second in let x = a.bytes node in let y = b.bytes node in omega arith);
}

-- what is left for a target's room
pub left_for_target : (first second : List Room) (seat mid : Seated) → Without second seat mid → ((node : ℕ) → bytes_on node (first ++ second) ≤ at_node node seat.bytes)
    → (node : ℕ) → bytes_on node first ≤ at_node node mid.bytes
left_for_target first second seat mid without enough node =
    let s = sum_by-append (part node) first second in let w = without.bytes node in let e = enough node in omega arith

pub columns_within : (first second : List Room) (seat : Seated) → ((node : ℕ) → bytes_on node (first ++ second) ≤ at_node node seat.bytes)
    → (node : ℕ) → bytes_on node second ≤ at_node node seat.bytes
columns_within first second seat enough node = let s = sum_by-append (part node) first second in let e = enough node in omega arith
