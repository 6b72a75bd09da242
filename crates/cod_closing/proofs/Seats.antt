-- Seats that come together.
use Rattle.std.proofs.Common.{◌≡◌, ℕ, zero, suc, ◌+◌, ◌<◌, ◌≤◌, Option, Some, None, List, [], ◌∷◌, ◌++◌, length, length-set, map, take, set, get_or, refl, sym, ap, ◌∙◌, subst, inl, inr, ◌⊎◌, add-one, append-nil, length-append, arith}
use Rattle.std.specs.Prelude.{slice_get, option_map}
use Rattle.std.specs.List.{cons_option, zip}
use Rattle.std.proofs.lemmas.Bool.{cases_eq}
use Rattle.std.proofs.lemmas.Option.{slice_get-map, slice_get_cases, slice_get_read, slice_get_within}
use Rattle.atomic_table.specs.Seated.{TableId}
use Rattle.cod_seg.specs.Seg.{Seg}
use Rattle.cod_board.specs.declared.view.View.{View as BoardView}
use Rattle.cod_board.specs.Words.{both_of as both_boards}
use Rattle.cod_turn.specs.declared.view.View.{View}
use Rattle.cod_turn.specs.Seats.{Seated}
use Rattle.cod_turn.specs.Turning.{both_of, callers, firsts}
use Rattle.cod_turn.proofs.Totals.{firsts-append, length-firsts}
use Rattle.cod_turns.proofs.Lists.{slice_get-set_other, slice_get-set_same}
use Rattle.cod_accounts.specs.Closing.{joined, joined_board, seats_at}
use Rattle.cod_pass.specs.States.{known_by, PassState, RestState}
use Rattle.cod_closing.specs.Joining.{AreSeatsOf, both_seats, both_turns, IsOurs, IsTheirs, with_pass, with_passes}

-- ---- lists

module _ {A : Type 0} where
  pub same_lists : (xs ys : List A) → ((i : ℕ) → slice_get xs i ≡ slice_get ys i) → xs ≡ ys
  same_lists [] [] same = refl
  same_lists [] (y ∷ ys) same = absurd (let bad : None ≡ Some y = same 0 in cc)
  same_lists (x ∷ xs) [] same = absurd (let bad : Some x ≡ None = same 0 in cc)
  same_lists (x ∷ xs) (y ∷ ys) same =
      let first : Some x ≡ Some y = same 0 in
      let head : x ≡ y = cc in
      let rest = same_lists xs ys (λ i. same (suc i)) in
      cc (head, rest)

  pub found : (xs : List A) (i : ℕ) → i < length xs → (x : A) × (slice_get xs i ≡ Some x)
  found xs i low = elim (slice_get_cases xs i).1 [
    | inl here ↦ (here.0, here.2)
    | inr past ↦ absurd (let p = past.0 in omega (arith, low, p))
  ]

  -- the last of a front was taken off it
  pub record Popped (all front rest : List A) (x : A) (at : ℕ) : Type 0 where
    pub rest_is : rest ≡ take (length rest) all
    pub long : length front ≡ suc at
    pub there : slice_get all at ≡ Some x

  popped_at : (all rest : List A) (x : A) → rest ++ x ∷ [] ≡ take (suc (length rest)) all → (rest ≡ take (length rest) all) × (slice_get all (length rest) ≡ Some x)
  popped_at [] [] x e = absurd (cc e)
  popped_at [] (r ∷ rest) x e = absurd (cc e)
  popped_at (a ∷ all) [] x e = let same : x ≡ a = cc e in (refl, ap (λ (z : A). Some z) (sym same))
  popped_at (a ∷ all) (r ∷ rest) x e =
      let head : r ≡ a = cc e in
      let tail : rest ++ x ∷ [] ≡ take (suc (length rest)) all = cc e in
      let more = popped_at all rest x tail in
      let first = more.0 in
      (cc (head, first), more.1)

  pub popped : (all front rest : List A) (x : A) (at : ℕ) → front ≡ take (length front) all → front ≡ rest ++ x ∷ [] → at ≡ length rest → Popped all front rest x at
  popped all front rest x at is parts size =
      let long : length front ≡ suc (length rest) = ap length parts ∙ (length-append rest (x ∷ []) ∙ add-one (length rest)) in
      let e : rest ++ x ∷ [] ≡ take (suc (length rest)) all = sym parts ∙ (is ∙ ap (λ (n : ℕ). take n all) long) in
      let both = popped_at all rest x e in
      record { rest_is = both.0; long = long ∙ ap suc (sym size); there = ap (slice_get all) size ∙ both.1 }

  pub take_whole : (xs : List A) → xs ≡ take (length xs) xs
  take_whole [] = refl
  take_whole (x ∷ xs) = ap (λ (l : List A). x ∷ l) (take_whole xs)

  -- what a longer list has at a place
  pub got_push : (xs : List A) (y : A) (i : ℕ) (z : A) → slice_get (xs ++ y ∷ []) i ≡ Some z → (slice_get xs i ≡ Some z) ⊎ ((i ≡ length xs) × (y ≡ z))
  got_push [] y zero z has = inr (refl, cc has)
  got_push [] y (suc i) z has = absurd (cc has)
  got_push (x ∷ xs) y zero z has = inl has
  got_push (x ∷ xs) y (suc i) z has = elim (got_push xs y i z has) [
    | inl old ↦ inl old
    | inr last ↦ inr (ap suc last.0, last.1)
  ]

-- two lists side by side
pub zip_at : {A B : Type 0} (xs : List A) (ys : List B) (k : ℕ) (a : A) (b : B) → k < length (zip xs ys) → ◌≡◌ {A = A × B} (a, b) (get_or (zip xs ys) k (a, b))
    → (slice_get xs k ≡ Some a) × (slice_get ys k ≡ Some b)
zip_at [] ys k a b low e = absurd (omega (arith, low))
zip_at (x ∷ xs) [] k a b low e = absurd (omega (arith, low))
zip_at {A} {B} (x ∷ xs) (y ∷ ys) zero a b low e = (ap (λ (p : A × B). Some p.0) (sym e), ap (λ (p : A × B). Some p.1) (sym e))
zip_at (x ∷ xs) (y ∷ ys) (suc k) a b low e = zip_at xs ys k a b (omega (arith, low)) e

pub long_more : {A B : Type 0} (xs : List A) (ys : List B) (x : A) (y : B) → length xs ≡ length ys → length (xs ++ x ∷ []) ≡ length (ys ++ y ∷ [])
long_more xs ys x y same = length-append xs (x ∷ []) ∙ (ap (λ (n : ℕ). n + 1) same ∙ sym (length-append ys (y ∷ [])))

pub long_zip : {A B : Type 0} (xs : List A) (ys : List B) → length ys ≡ length xs → length (zip xs ys) ≡ length xs
long_zip [] ys same = refl
long_zip (x ∷ xs) [] same = absurd (omega (arith, same))
long_zip (x ∷ xs) (y ∷ ys) same = ap suc (long_zip xs ys (omega (arith, same)))

-- ---- seats of one turn after another

pub both_at : (ss ts : List (Seated Seg)) (i : ℕ) (s t : Seated Seg) → slice_get ss i ≡ Some s → slice_get ts i ≡ Some t → slice_get (both_turns ss ts) i ≡ Some (both_seats s t)
both_at [] ts i s t is at = absurd (cc is)
both_at (x ∷ ss) [] i s t is at = absurd (cc at)
both_at (x ∷ ss) (y ∷ ts) zero s t is at =
    let p : x ≡ s = cc is in
    let q : y ≡ t = cc at in
    ap (λ (z : Seated Seg). Some (both_seats z y)) p ∙ ap (λ (z : Seated Seg). Some (both_seats s z)) q
both_at (x ∷ ss) (y ∷ ts) (suc i) s t is at = both_at ss ts i s t is at

pub both_past : (ss ts : List (Seated Seg)) (i : ℕ) → length ts ≤ i → slice_get (both_turns ss ts) i ≡ slice_get ss i
both_past [] ts i past = refl
both_past (x ∷ ss) [] i past = refl
both_past (x ∷ ss) (y ∷ ts) zero past = absurd (omega (arith, past))
both_past (x ∷ ss) (y ∷ ts) (suc i) past = both_past ss ts i (omega (arith, past))

pub length-both : (ss ts : List (Seated Seg)) → length (both_turns ss ts) ≡ length ss
length-both [] ts = refl
length-both (x ∷ ss) [] = refl
length-both (x ∷ ss) (y ∷ ts) = ap suc (length-both ss ts)

-- the first seats, of which those from this turn on have the others
pub record BothFrom (at : ℕ) (old others now : List (Seated Seg)) : Type 0 where
  pub size : length now ≡ length old
  pub done : (i : ℕ) → at ≤ i → slice_get now i ≡ slice_get (both_turns old others) i
  pub left : (i : ℕ) → i < at → slice_get now i ≡ slice_get old i

pub both_none : (old others : List (Seated Seg)) → BothFrom (length others) old others old
both_none old others = record { size = refl; done = λ i past. sym (both_past old others i past); left = λ i low. refl }

-- one turn more has the other
pub both_more : (at more : ℕ) (old others now : List (Seated Seg)) (s t u : Seated Seg) → more ≡ suc at → BothFrom more old others now → slice_get now at ≡ Some s
    → slice_get others at ≡ Some t → u ≡ both_seats s t → BothFrom at old others (set now at u)
both_more at more old others now s t u is from here there u_is = record {
  size = length-set now at u ∙ from.size;
  done = λ i above. elim (cases_eq i at) [
    | inl same ↦ subst (λ (j : ℕ). slice_get (set now at u) j ≡ slice_get (both_turns old others) j) (sym same)
        (slice_get-set_same now at u s here
        ∙ (ap (λ (z : Seated Seg). Some z) u_is ∙ sym (both_at old others at s t (sym (from.left at (omega (arith, is))) ∙ here) there)))
    | inr other ↦ slice_get-set_other now at i u other ∙ from.done i (omega (arith, above, other, is))
  ];
  left = λ i low. slice_get-set_other now at i u (λ e. omega (arith, e, low)) ∙ from.left i (omega (arith, low, is));
}

-- a seat is of the turn at its place
pub same_turn : (turns : List TableId) (seats : List (Seated Seg)) (i : ℕ) (turn : TableId) (s : Seated Seg) → AreSeatsOf turns seats → i < length turns
    → turn ≡ get_or turns i turn → slice_get seats i ≡ Some s → s.of ≡ turn
same_turn turns seats i turn s are low read is =
    let a : slice_get turns i ≡ Some turn = slice_get_read turns (length turns) i turn refl low read in
    let b = (are.each i s is).0 in
    let e : Some s.of ≡ Some turn = sym b ∙ a in
    cc e

pub both_all : (old others now : List (Seated Seg)) → BothFrom 0 old others now → now ≡ both_turns old others
both_all old others now from = same_lists now (both_turns old others) (λ i. from.done i (omega arith))

-- ---- first seats and passes

pub both_are : (turns : List TableId) (ss ts : List (Seated Seg)) → AreSeatsOf turns ss → AreSeatsOf turns ts → AreSeatsOf turns (both_turns ss ts)
both_are turns ss ts are others = record {
  count = length-both ss ts ∙ are.count;
  each = λ i s is.
      let low : i < length ss = (let w = slice_get_within (both_turns ss ts) i s is in let l = length-both ss ts in omega (arith, w, l)) in
      let a = found ss i low in
      let b = found ts i (let x = are.count in let y = others.count in omega (arith, low, x, y)) in
      let e : Some (both_seats a.0 b.0) ≡ Some s = sym (both_at ss ts i a.0 b.0 a.1 b.1) ∙ is in
      let same : both_seats a.0 b.0 ≡ s = cc in
      let of : a.0.of ≡ s.of = ap (λ (z : Seated Seg). z.of) same in
      let idle : a.0.knows.hold ≡ s.knows.hold = ap (λ (z : Seated Seg). z.knows.hold) same in
      ((are.each i a.0 a.1).0 ∙ ap (λ (z : TableId). Some z) of, sym idle ∙ (are.each i a.0 a.1).1);
}

pub ours_more : (turns : List TableId) (board pools : TableId) (r : RestState) (p : PassState) → IsOurs turns board pools r → IsTheirs turns board pools p → IsOurs turns board pools (with_pass r p)
ours_more turns board pools r p ours theirs =
    record { seats = both_are turns r.seats p.seats ours.seats theirs.seats; board_is = ours.board_is; pools_are = ours.pools_are }

pub ours_all : (turns : List TableId) (board pools : TableId) (r : RestState) (ps : List PassState) → IsOurs turns board pools r
    → ((j : ℕ) (p : PassState) → slice_get ps j ≡ Some p → IsTheirs turns board pools p) → IsOurs turns board pools (with_passes r ps)
ours_all turns board pools r [] ours theirs = ours
ours_all turns board pools r (p ∷ ps) ours theirs =
    ours_all turns board pools (with_pass r p) ps (ours_more turns board pools r p ours (theirs 0 p refl)) (λ j q is. theirs (suc j) q is)

pub with_more : (r : RestState) (ps : List PassState) (p : PassState) → with_passes r (ps ++ p ∷ []) ≡ with_pass (with_passes r ps) p
with_more r [] p = refl
with_more r (q ∷ ps) p = with_more (with_pass r q) ps p

-- ---- what the joined seats know

-- the seat of a turn
pub seat_with : (i : ℕ) (r : RestState) (ps : List PassState) (s : Seated Seg) → slice_get r.seats i ≡ Some s
    → ((j : ℕ) (p : PassState) → slice_get ps j ≡ Some p → i < length p.seats)
    → slice_get (with_passes r ps).seats i ≡ Some (record { of = s.of; knows = joined s.knows (seats_at i (map known_by ps)) })
seat_with i r [] s at have = at
seat_with i r (p ∷ ps) s at have =
    let t = found p.seats i (have 0 p refl) in
    let rest = seat_with i (with_pass r p) ps (both_seats s t.0) (both_at r.seats p.seats i s t.0 at t.1) (λ j q is. have (suc j) q is) in
    let e : slice_get (map (λ (z : Seated Seg). z.knows) p.seats) i ≡ Some t.0.knows = slice_get-map (λ (z : Seated Seg). z.knows) p.seats i ∙ ap (option_map (λ (z : Seated Seg). z.knows)) t.1 in
    rest ∙ sym (ap (λ (o : Option (View Seg)). Some (record { of = s.of; knows = joined s.knows (cons_option o (seats_at i (map known_by ps))) })) e)

pub joined_name : (v : View Seg) (vs : List (View Seg)) → (joined v vs).name ≡ v.name
joined_name v [] = refl
joined_name v (w ∷ vs) = joined_name (both_of v w) vs

callers_both : (v w : View Seg) → length (callers (both_of v w)) ≡ length (callers v) + length w.own
callers_both v w =
    ap length (firsts-append v.own w.own) ∙ (length-append (firsts v.own) (firsts w.own) ∙ ap (λ (n : ℕ). length (firsts v.own) + n) (length-firsts w.own))

-- each pass's seat of the turn has one caller
abbrev pub HaveOne : (i : ℕ) → List PassState → Type 0
HaveOne i ps = (j : ℕ) (p : PassState) → slice_get ps j ≡ Some p → (t : Seated Seg) × (slice_get p.seats i ≡ Some t) × (length t.knows.own ≡ 1)

pub callers_with : (i : ℕ) (v : View Seg) (ps : List PassState) → HaveOne i ps
    → length (callers (joined v (seats_at i (map known_by ps)))) ≡ length (callers v) + length ps
callers_with i v [] have = omega arith
callers_with i v (p ∷ ps) have =
    let t = have 0 p refl in
    let rest = callers_with i (both_of v t.0.knows) ps (λ j q is. have (suc j) q is) in
    let both = callers_both v t.0.knows in
    let one = t.2 in
    let n : length (callers (joined (both_of v t.0.knows) (seats_at i (map known_by ps)))) ≡ length (callers v) + length (p ∷ ps) = omega arith in
    let e : slice_get (map (λ (z : Seated Seg). z.knows) p.seats) i ≡ Some t.0.knows = slice_get-map (λ (z : Seated Seg). z.knows) p.seats i ∙ ap (option_map (λ (z : Seated Seg). z.knows)) t.1 in
    ap (λ (o : Option (View Seg)). length (callers (joined v (cons_option o (seats_at i (map known_by ps)))))) e ∙ n

-- the board's seat
pub board_with : (r : RestState) (ps : List PassState) → (with_passes r ps).board.knows ≡ joined_board r.board.knows (map known_by ps)
board_with r [] = refl
board_with r (p ∷ ps) = board_with (with_pass r p) ps

pub numbers_with : (v : BoardView) (ps : List PassState) → ((j : ℕ) (p : PassState) → slice_get ps j ≡ Some p → length p.board.knows.numbers ≡ 1)
    → length (joined_board v (map known_by ps)).numbers ≡ length v.numbers + length ps
numbers_with v [] one = omega arith
numbers_with v (p ∷ ps) one =
    let rest = numbers_with (both_boards v p.board.knows) ps (λ j q is. one (suc j) q is) in
    let here = one 0 p refl in
    let both = length-append v.numbers p.board.knows.numbers in
    omega arith

-- the pools' seat
pub bytes_with : (r : RestState) (ps : List PassState) → ((j : ℕ) (p : PassState) → slice_get ps j ≡ Some p → p.pools.bytes ≡ [])
    → (with_passes r ps).pools.bytes ≡ r.pools.bytes
bytes_with r [] none = refl
bytes_with r (p ∷ ps) none =
    bytes_with (with_pass r p) ps (λ j q is. none (suc j) q is) ∙ (ap (λ (b : List (ℕ × ℕ)). r.pools.bytes ++ b) (none 0 p refl) ∙ append-nil r.pools.bytes)
