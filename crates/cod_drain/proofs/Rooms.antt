-- A column's room is exchanged for another.
use Rattle.std.specs.Prelude.{IsPermutation}
use Rattle.std.proofs.Common.{◌≡◌, ℕ, zero, suc, ◌<◌, List, [], ◌∷◌, ◌++◌, length, set, map, Option, cond, eqb, refl, sym, ap, ◌∙◌, subst, append_assoc, arith}
use Rattle.std.proofs.lemmas.List.{map-append}
use Rattle.std.proofs.lemmas.List.Sorted.{IsPermutation-cons, IsPermutation-middle, IsPermutation-sym, IsPermutation-trans, sum_by-IsPermutation}
use Rattle.cod_claims.specs.declared.claim.Claim.{Claim}
use Rattle.cod_place.specs.Room.{Room}
use Rattle.cod_seg.specs.Seg.{Col, col_at, Seg}
use Rattle.cod_segment.specs.Events.{Balances, rebuild_rooms, rooms_of}
use Rattle.cod_segment.proofs.Balancing.{beside}

-- a list around one place
record Around (xs : List Col) (i : ℕ) : Type 0 where
  before : List Col
  behind : List Col
  here : xs ≡ before ++ col_at xs i ∷ behind
  there : (c : Col) → set xs i c ≡ before ++ c ∷ behind

around : (xs : List Col) (i : ℕ) → i < length xs → Around xs i
around [] i lt = absurd (omega (arith, lt))
around (x ∷ xs) zero lt = record { before = []; behind = xs; here = refl; there = λ c. refl }
around (x ∷ xs) (suc i) lt =
    let a = around xs i (omega (arith, lt)) in
    record {
      before = x ∷ a.before;
      behind = a.behind;
      here = ap (λ (l : List Col). x ∷ l) a.here;
      there = λ c. ap (λ (l : List Col). x ∷ l) (a.there c);
    }

-- a room that stands in front, and one inside, in each other's place
swapped : (front behind : List Room) (r o : Room) → IsPermutation (r ∷ (front ++ o ∷ behind)) (o ∷ (front ++ r ∷ behind))
swapped front behind r o =
    let rest = front ++ behind in
    let left = IsPermutation-cons r (front ++ o ∷ behind) (o ∷ rest) (IsPermutation-middle front o behind) in
    let right = IsPermutation-cons o (front ++ r ∷ behind) (r ∷ rest) (IsPermutation-middle front r behind) in
    let cross : IsPermutation (r ∷ (o ∷ rest)) (o ∷ (r ∷ rest)) = IsPermutation-middle (r ∷ []) o rest in
    IsPermutation-trans (r ∷ (front ++ o ∷ behind)) (r ∷ (o ∷ rest)) (o ∷ (front ++ r ∷ behind)) left
    (IsPermutation-trans (r ∷ (o ∷ rest)) (o ∷ (r ∷ rest)) (o ∷ (front ++ r ∷ behind)) cross (IsPermutation-sym (o ∷ (front ++ r ∷ behind)) (o ∷ (r ∷ rest)) right))

abbrev room_in : Col → Room
room_in c = c.room

laid : (front before behind rest : List Room) (r : Room) → (front ++ (before ++ r ∷ behind)) ++ rest ≡ (front ++ before) ++ r ∷ (behind ++ rest)
laid front before behind rest r =
    append_assoc front (before ++ r ∷ behind) rest ∙ ap (λ (l : List Room). front ++ l) (append_assoc before (r ∷ behind) rest)
    ∙ sym (append_assoc front before (r ∷ (behind ++ rest)))

pub exchanged : (front rest : List Room) (cols : List Col) (i : ℕ) (c : Col) → i < length cols
    → IsPermutation (c.room ∷ ((front ++ map room_in cols) ++ rest)) ((col_at cols i).room ∷ ((front ++ map room_in (set cols i c)) ++ rest))
exchanged front rest cols i c lt =
    let a = around cols i lt in
    let o = (col_at cols i).room in
    let before = map room_in a.before in
    let behind = map room_in a.behind in
    let old : map room_in cols ≡ before ++ o ∷ behind = ap (map room_in) a.here ∙ map-append room_in a.before (col_at cols i ∷ a.behind) in
    let new : map room_in (set cols i c) ≡ before ++ c.room ∷ behind = ap (map room_in) (a.there c) ∙ map-append room_in a.before (c ∷ a.behind) in
    let first : (front ++ map room_in cols) ++ rest ≡ (front ++ before) ++ o ∷ (behind ++ rest) = ap (λ (l : List Room). (front ++ l) ++ rest) old ∙ laid front before behind rest o in
    let then_ : (front ++ map room_in (set cols i c)) ++ rest ≡ (front ++ before) ++ c.room ∷ (behind ++ rest) = ap (λ (l : List Room). (front ++ l) ++ rest) new ∙ laid front before behind rest c.room in
    subst (λ (l : List Room). IsPermutation (c.room ∷ l) (o ∷ ((front ++ map room_in (set cols i c)) ++ rest))) (sym first)
    (subst (λ (l : List Room). IsPermutation (c.room ∷ ((front ++ before) ++ o ∷ (behind ++ rest))) (o ∷ l)) (sym then_) (swapped (front ++ before) (behind ++ rest) c.room o))

-- the same of a segment's rooms, where a column with this room is in the place of another
pub moved_rooms : (s u : Seg) (i : ℕ) (c : Col) (claims : List (Option Claim)) (r o : Room) (rest : List Room) → i < length s.cols → u ≡ record s { cols = set s.cols i c; claims = claims }
    → c.room ≡ r → o ≡ (col_at s.cols i).room → IsPermutation (r ∷ (rooms_of s ++ rest)) (o ∷ (rooms_of u ++ rest))
moved_rooms s u i c claims r o rest lt becomes new old =
    let rooms : rooms_of u ≡ rebuild_rooms s.rebuild ++ map room_in (set s.cols i c) = ap rooms_of becomes in
    rw (old, rooms, ← new) (exchanged (rebuild_rooms s.rebuild) rest s.cols i c lt)

-- what balances one order of the rooms balances another
pub balances_order : (a b : Option (List ℕ)) (xs ys zs : List Room) → IsPermutation xs ys → Balances a b ys zs → Balances a b xs zs
balances_order a b xs ys zs order is f e =
    let m = is f e in (
      m.0,
      m.1,
      m.2,
      λ node small.
          let same = sum_by-IsPermutation (λ (room : Room). cond (eqb room.node.0 node) room.bytes 0) xs ys order in
          let v = m.3 node small in
          omega (arith, same, v),
    )

pub given_beside : (a b : Option (List ℕ)) (o : Room) (rest : List Room) → Balances a b (o ∷ []) [] → Balances a b (o ∷ rest) rest
given_beside a b o rest is = beside a b [] (o ∷ []) [] rest is
