-- A room among those of a segment, of which bytes are given back.
use Rattle.std.proofs.Common.{◌≡◌, ℕ, zero, suc, ◌+◌, ◌-◌, ◌<◌, ◌≤◌, ◌++◌, ◌∷◌, [], List, length, set, get_or, Option, refl, sym, ap, ◌∙◌, subst, arith}
use Rattle.std.specs.Prelude.{IsPermutation, option_map}
use Rattle.std.proofs.lemmas.List.{append_assoc, map-append}
use Rattle.std.proofs.lemmas.List.Sorted.{IsPermutation-append_comm, IsPermutation-append_left, IsPermutation-sym}
use Rattle.cod_place.specs.Room.{Room}
use Rattle.cod_place.specs.Rooms.{raised}
use Rattle.cod_place.proofs.Rooms.{elsewhere, here}
use Rattle.cod_seg.specs.Seg.{Col, col_at, no_col, Rebuilding, Seg, with_col}
use Rattle.cod_segment.specs.Events.{Balances, rebuild_rooms, rooms_of}
use Rattle.cod_segment.proofs.Balancing.{balanced, beside}
use Rattle.cod_rounds.specs.Rounds.{rooms_in}

-- ---- one element among others

-- what stands before and behind an element, which another replaces
pub record Amid {A : Type 0} (l : List A) (i : ℕ) (x d : A) : Type 0 where
  pub front : List A
  pub rest : List A
  pub was : l ≡ front ++ (get_or l i d ∷ rest)
  pub now : set l i x ≡ front ++ (x ∷ rest)

pub amid : {A : Type 0} (l : List A) (i : ℕ) (x d : A) → i < length l → Amid l i x d
amid [] i x d lt = absurd (omega (arith, lt))
amid (a ∷ l) zero x d lt = record { front = []; rest = l; was = refl; now = refl }
amid (a ∷ l) (suc i) x d lt =
    let m = amid l i x d (omega (arith, lt)) in
    record { front = a ∷ m.front; rest = m.rest; was = ap (λ k. a ∷ k) m.was; now = ap (λ k. a ∷ k) m.now }

-- the rooms of a segment with another column
pub record RoomsAmid (s u : Seg) (old new : Room) : Type 0 where
  pub front : List Room
  pub rest : List Room
  pub was : rooms_of s ≡ front ++ (old ∷ rest)
  pub now : rooms_of u ≡ front ++ (new ∷ rest)

rooms_among : (o : Option Rebuilding) (cols front rest : List Col) (c : Col) → cols ≡ front ++ (c ∷ rest)
    → rebuild_rooms o ++ rooms_in cols ≡ (rebuild_rooms o ++ rooms_in front) ++ (c.room ∷ rooms_in rest)
rooms_among o cols front rest c is =
    ap (λ (l : List Col). rebuild_rooms o ++ rooms_in l) is
    ∙ ap (λ (l : List Room). rebuild_rooms o ++ l) (map-append (λ (x : Col). x.room) front (c ∷ rest))
    ∙ sym (append_assoc (rebuild_rooms o) (rooms_in front) (c.room ∷ rooms_in rest))

pub rooms_amid : (s u : Seg) (col : ℕ) (c : Col) → col < length s.cols → u.cols ≡ with_col s.cols col c → u.rebuild ≡ s.rebuild
    → RoomsAmid s u (col_at s.cols col).room c.room
rooms_amid s u col c there cols rebuild =
    let m = amid s.cols col c no_col there in
    record {
      front = rebuild_rooms s.rebuild ++ rooms_in m.front;
      rest = rooms_in m.rest;
      was = rooms_among s.rebuild s.cols m.front m.rest (col_at s.cols col) m.was;
      now = ap (λ (o : Option Rebuilding). rebuild_rooms o ++ rooms_in u.cols) rebuild ∙ rooms_among s.rebuild u.cols m.front m.rest c (cols ∙ m.now);
    }

-- ---- where rooms came from

-- it comes first
pub comes_first : (front rest others : List Room) (x : Room) → IsPermutation ((front ++ (x ∷ rest)) ++ others) (x ∷ (front ++ (rest ++ others)))
comes_first front rest others x =
    let left : (front ++ (x ∷ rest)) ++ others ≡ (front ++ (x ∷ [])) ++ (rest ++ others) =
    append_assoc front (x ∷ rest) others ∙ sym (append_assoc front (x ∷ []) (rest ++ others)) in
    subst (λ (l : List Room). IsPermutation l (x ∷ (front ++ (rest ++ others)))) (sym left)
    (IsPermutation-append_left (rest ++ others) (front ++ (x ∷ [])) (x ∷ front) (IsPermutation-append_comm front (x ∷ [])))

-- Of one room bytes go back to the pools, and the others stay.
pub came_on : (Came Later : List Room → Type 0) → ((xs ys : List Room) → IsPermutation xs ys → Came xs → Came ys) → ((xs ys : List Room) → IsPermutation xs ys → Later xs → Later ys)
    → (s u : Seg) (old new : Room) → RoomsAmid s u old new → ((rooms : List Room) → Came (old ∷ rooms) → Later (new ∷ rooms))
    → (others : List Room) → Came (rooms_of s ++ others) → Later (rooms_of u ++ others)
came_on Came Later order ordered s u old new amid trims others came =
    let first = order ((amid.front ++ (old ∷ amid.rest)) ++ others) (old ∷ (amid.front ++ (amid.rest ++ others))) (comes_first amid.front amid.rest others old)
    (subst (λ (l : List Room). Came (l ++ others)) amid.was came) in
    subst (λ (l : List Room). Later (l ++ others)) (sym amid.now)
    (ordered (new ∷ (amid.front ++ (amid.rest ++ others))) ((amid.front ++ (new ∷ amid.rest)) ++ others)
    (IsPermutation-sym ((amid.front ++ (new ∷ amid.rest)) ++ others) (new ∷ (amid.front ++ (amid.rest ++ others))) (comes_first amid.front amid.rest others new))
    (trims (amid.front ++ (amid.rest ++ others)) first))

-- ---- what is free

pub trimmed : (before after : Option (List ℕ)) (room : Room) (bytes : ℕ) → bytes ≤ room.bytes → after ≡ option_map (raised room.node.0 bytes) before
    → Balances before after (room ∷ []) (record room { bytes = room.bytes - bytes } ∷ [])
trimmed before after room bytes within is =
    let less : Room = record room { bytes = room.bytes - bytes } in
    balanced before after room.node.0 (λ n. n + bytes) (room ∷ []) (less ∷ []) is
    (λ node other. elsewhere node less [] other ∙ sym (elsewhere node room [] other))
    (λ f e. let old = here room [] in let new = here less [] in omega (arith, old, new, within))

pub balance_on : (before after : Option (List ℕ)) (s u : Seg) (old new : Room) → RoomsAmid s u old new → Balances before after (old ∷ []) (new ∷ [])
    → Balances before after (rooms_of s) (rooms_of u)
balance_on before after s u old new amid is =
    subst (λ (l : List Room). Balances before after l (rooms_of u)) (sym amid.was)
    (subst (λ (l : List Room). Balances before after (amid.front ++ (old ∷ amid.rest)) l) (sym amid.now)
    (beside before after amid.front (old ∷ []) (new ∷ []) amid.rest is))
