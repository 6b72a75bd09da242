-- Which of many rests begins with the least stamp.
use Rattle.std.proofs.Common.{◌≡◌, ◌⊎◌, ℕ, zero, suc, ◌+◌, ◌*◌, ◌/◌, ◌<◌, ◌≤◌, true, false, Option, Some, None, List, [], ◌∷◌, length, set, take, ◌++◌, get_or, refl, sym, ap, ◌∙◌, subst, inl, inr}
use Rattle.std.proofs.Common.{arith}
use Rattle.std.specs.Prelude.{slice_get}
use Rattle.std.specs.Option.{option_map}
use Rattle.std.specs.List.{AllByRecursion, refill}
use Rattle.std.proofs.Math.Seq.{take-length}
use Rattle.std.proofs.lemmas.List.{append-nil, drop_all, length-set, get_or-set_other, get_or-set_same, map-set}
use Rattle.std.proofs.lemmas.Option.{slice_get-map}
use Rattle.std.proofs.lemmas.Bool.{cases_lt}
use Rattle.std.proofs.lemmas.Bool.Decides.{nat_tests}
use Rattle.cod_chronicle.specs.declared.entry.Entry.{Entry}
use Rattle.cod_chronicle.specs.Said.{stamp_of, StampsRise}
use Rattle.cod_chronicle.specs.Order.{place, order}
use Rattle.cod_chronicle.specs.Walk.{AreSoonest, entries_left, first_stamp, is_sooner, IsSoonest, lists_of, Rest, stamp_left, TakesFirst}
use Rattle.cod_chronicle.proofs.Merging.{AllRise, IsFirst, NotBelow, order_end, order_step, rise_of}

not_itself : (s : Option ℕ) → is_sooner s s ≡ false
not_itself None = refl
not_itself (Some s) = grind (arith, nat_tests)

-- the first is smaller than the second, and the third isn't
before_later : (s t u : Option ℕ) → is_sooner s t ≡ true → is_sooner u t ≡ false → (is_sooner s u ≡ true) × (is_sooner u s ≡ false)
before_later None t u a b = cc
before_later (Some s) None None a b = (refl, refl)
before_later (Some s) None (Some u) a b = cc
before_later (Some s) (Some t) None a b = (refl, refl)
before_later (Some s) (Some t) (Some u) a b = (grind (arith, nat_tests), grind (arith, nat_tests))

-- none of the steps goes down
not_before : (s t u : Option ℕ) → is_sooner s t ≡ false → is_sooner t u ≡ false → is_sooner s u ≡ false
not_before None t u a b = refl
not_before (Some s) None u a b = cc
not_before (Some s) (Some t) None a b = cc
not_before (Some s) (Some t) (Some u) a b = grind (arith, nat_tests)

pub one_rest : (rests : List (Option Rest)) (w : ℕ) → IsSoonest rests w w (w + 1)
one_rest rests w = record {
  low = omega arith;
  high = omega arith;
  before = λ i from below. absurd (omega (arith, from, below));
  all = λ i from below. let same : i ≡ w = omega (arith, from, below) in rw same (not_itself (stamp_left rests w));
}

-- rests beside rests: those behind count only where they begin with a smaller stamp
pub later_wins : (rests : List (Option Rest)) (w v from mid to : ℕ) → IsSoonest rests w from mid → IsSoonest rests v mid to → is_sooner (stamp_left rests v) (stamp_left rests w) ≡ true
    → IsSoonest rests v from to
later_wins rests w v from mid to a b sooner = record {
  low = omega (arith, a.low, a.high, b.low);
  high = b.high;
  before = λ i low below. elim (cases_lt i mid) [
    | inl under ↦ (before_later (stamp_left rests v) (stamp_left rests w) (stamp_left rests i) sooner (a.all i low under)).0
    | inr over ↦ b.before i over below
  ];
  all = λ i low below. elim (cases_lt i mid) [ inl under ↦ (before_later (stamp_left rests v) (stamp_left rests w) (stamp_left rests i) sooner (a.all i low under)).1 | inr over ↦ b.all i over below ];
}

pub earlier_stays : (rests : List (Option Rest)) (w v from mid to : ℕ) → IsSoonest rests w from mid → IsSoonest rests v mid to → is_sooner (stamp_left rests v) (stamp_left rests w) ≡ false
    → IsSoonest rests w from to
earlier_stays rests w v from mid to a b sooner = record {
  low = a.low;
  high = omega (arith, a.high, b.low, b.high);
  before = a.before;
  all = λ i low below. elim (cases_lt i mid) [ inl under ↦ a.all i low under | inr over ↦ not_before (stamp_left rests i) (stamp_left rests v) (stamp_left rests w) (b.all i over below) sooner ];
}

none_below : (t : ℕ) (rests : List (Option Rest)) → ((i : ℕ) → i < length rests → is_sooner (stamp_left rests i) (Some t) ≡ false) → AllByRecursion (NotBelow t) (lists_of rests)
none_below t [] h = tt
none_below t (r ∷ rs) h = (one r (h 0 (omega arith)), none_below t rs (λ i l. h (suc i) (omega (arith, l)))) where
  one : (r : Option Rest) → is_sooner (first_stamp r) (Some t) ≡ false → NotBelow t (entries_left r)
  one None e = tt
  one (Some r) e = grind (arith, nat_tests)

-- what the walk's step asks, by the places of the rests
is_first : (t w : ℕ) (rests : List (Option Rest)) → ((i : ℕ) → i < w → is_sooner (Some t) (stamp_left rests i) ≡ true) → ((i : ℕ) → i < length rests → is_sooner (stamp_left rests i) (Some t) ≡ false)
    → IsFirst t w (lists_of rests)
is_first t w [] before all = tt
is_first t zero (r ∷ rs) before all = none_below t rs (λ i l. all (suc i) (omega (arith, l)))
is_first t (suc w) (r ∷ rs) before all = (one r (before 0 (omega arith)), is_first t w rs (λ i l. before (suc i) (omega (arith, l))) (λ i l. all (suc i) (omega (arith, l)))) where
  one : (r : Option Rest) → is_sooner (Some t) (first_stamp r) ≡ true → NotBelow (t + 1) (entries_left r)
  one None e = tt
  one (Some r) e = grind (arith, nat_tests)

-- none begins sooner than one that is at its end
all_ended : (rests : List (Option Rest)) → ((i : ℕ) → i < length rests → is_sooner (stamp_left rests i) None ≡ false) → AllByRecursion (λ h. h ≡ []) (lists_of rests)
all_ended [] h = tt
all_ended (r ∷ rs) h = (one r (h 0 (omega arith)), all_ended rs (λ i l. h (suc i) (omega (arith, l)))) where
  one : (r : Option Rest) → is_sooner (first_stamp r) None ≡ false → entries_left r ≡ []
  one None e = refl
  one (Some r) e = cc

pub walk_ends : (rests : List (Option Rest)) (w : ℕ) → length rests ≤ 1024 → IsSoonest rests w 0 1024 → stamp_left rests w ≡ None → order (lists_of rests) ≡ []
walk_ends rests w few soonest ended =
    order_end (lists_of rests) (all_ended rests (λ i l. subst (λ s. is_sooner (stamp_left rests i) s ≡ false) ended (soonest.all i (omega arith) (omega (arith, l, few)))))

stamp_at_get : (rests : List (Option Rest)) (w : ℕ) (r : Rest) → slice_get rests w ≡ Some (Some r) → stamp_left rests w ≡ Some (stamp_of r.first)
stamp_at_get [] w r is = cc
stamp_at_get (q ∷ qs) zero r is = let same : q ≡ Some r = cc in ap first_stamp same
stamp_at_get (q ∷ qs) (suc w) r is = stamp_at_get qs w r is

lists_then : (old new : List (Option Rest)) (w : ℕ) (e : Entry) → (t : TakesFirst old new w e) → lists_of new ≡ set (lists_of old) w t.behind
lists_then old new w e t = ap lists_of t.are ∙ map-set entries_left old w t.left ∙ ap (set (lists_of old) w) t.left_is

list_was : (old new : List (Option Rest)) (w : ℕ) (e : Entry) → (t : TakesFirst old new w e) → slice_get (lists_of old) w ≡ Some (e ∷ t.behind)
list_was old new w e t = slice_get-map entries_left old w ∙ ap (option_map entries_left) t.was

pub walk_steps : (old new : List (Option Rest)) (w : ℕ) (e : Entry) → length old ≤ 1024 → IsSoonest old w 0 1024 → AllRise (lists_of old) → TakesFirst old new w e
    → order (lists_of old) ≡ place w e ∷ order (lists_of new)
walk_steps old new w e few soonest rise t =
    let first = stamp_at_get old w (record { first = e; behind = t.behind }) t.was in
    let before : (i : ℕ) → i < w → is_sooner (Some (stamp_of e)) (stamp_left old i) ≡ true = λ i l. subst (λ s. is_sooner s (stamp_left old i) ≡ true) first (soonest.before i (omega arith) l) in
    let all : (i : ℕ) → i < length old → is_sooner (stamp_left old i) (Some (stamp_of e)) ≡ false =
    λ i l. subst (λ s. is_sooner (stamp_left old i) s ≡ false) first (soonest.all i (omega arith) (omega (arith, l, few))) in
    order_step w (lists_of old) e t.behind (list_was old new w e t) (is_first (stamp_of e) w old before all) rise
    ∙ ap (λ l. place w e ∷ order l) (sym (lists_then old new w e t))

tail_rises : (e : Entry) (h : List Entry) → StampsRise (e ∷ h) → StampsRise h
tail_rises e [] r = tt
tail_rises e (f ∷ h) r = r.1

each_rises : (hs : List (List Entry)) (w : ℕ) (h : List Entry) → AllRise hs → StampsRise h → AllRise (set hs w h)
each_rises [] w h a r = tt
each_rises (g ∷ hs) zero h a r = (r, a.1)
each_rises (g ∷ hs) (suc w) h a r = (a.0, each_rises hs w h a.1 r)

pub walk_rises : (old new : List (Option Rest)) (w : ℕ) (e : Entry) → AllRise (lists_of old) → TakesFirst old new w e → AllRise (lists_of new)
walk_rises old new w e rise t =
    rw (lists_then old new w e t) (each_rises (lists_of old) w t.behind rise (tail_rises e t.behind (rise_of (lists_of old) w (e ∷ t.behind) rise (list_was old new w e t))))

others_stay : (old new : List (Option Rest)) (w i : ℕ) (e : Entry) → TakesFirst old new w e → i < w ⊎ w < i → stamp_left new i ≡ stamp_left old i
others_stay old new w i e t other =
    ap (λ l. stamp_left l i) t.are ∙ ap first_stamp (get_or-set_other old w i t.left None (λ same. elim other [ inl a ↦ absurd (omega (arith, a, same)) | inr b ↦ absurd (omega (arith, b, same)) ]))

apart : (rests others : List (Option Rest)) (s from to : ℕ) → ((i : ℕ) → from ≤ i → i < to → stamp_left others i ≡ stamp_left rests i) → IsSoonest rests s from to → IsSoonest others s from to
apart rests others s from to same soonest = record {
  low = soonest.low;
  high = soonest.high;
  before = λ i a b. rw (same s soonest.low soonest.high, same i a (omega (arith, b, soonest.high))) (soonest.before i a b);
  all = λ i a b. rw (same s soonest.low soonest.high, same i a b) (soonest.all i a b);
}

pub walk_keeps : (old new : List (Option Rest)) (w : ℕ) (e : Entry) (soonest : List ℕ) (s : ℕ) → w < 1024 → length soonest ≡ 32 → TakesFirst old new w e → AreSoonest old soonest
    → IsSoonest new s (w / 32 * 32) (w / 32 * 32 + 32) → AreSoonest new (set soonest (w / 32) s)
walk_keeps old new w e soonest s within long t are is g low =
    elim (cases_lt g (w / 32)) [
      | inl under ↦ other g low (λ same. absurd (omega (arith, under, same))) (λ i a b. others_stay old new w i e t (inl (omega (arith, under, a, b))))
      | inr over ↦ elim (cases_lt (w / 32) g) [
        | inl above ↦ other g low (λ same. absurd (omega (arith, above, same))) (λ i a b. others_stay old new w i e t (inr (omega (arith, above, a, b))))
        | inr level ↦ (let same : g ≡ w / 32 = omega (arith, over, level) in rw (same, get_or-set_same soonest (w / 32) s 0 (omega (arith, long, within))) is)
      ]
    ] where
      other : (g : ℕ) → g < 32 → (g ≡ w / 32 → ⊥) → ((i : ℕ) → g * 32 ≤ i → i < g * 32 + 32 → stamp_left new i ≡ stamp_left old i)
          → IsSoonest new (get_or (set soonest (w / 32) s) g 0) (g * 32) (g * 32 + 32)
      other g low ne same = rw (get_or-set_other soonest (w / 32) g s 0 ne) (apart old new (get_or soonest g 0) (g * 32) (g * 32 + 32) same (are g low))

-- a place that is written twice
pub set_again : {A : Type 0} (l : List A) (i : ℕ) (a b : A) → set (set l i a) i b ≡ set l i b
set_again [] i a b = refl
set_again (x ∷ xs) zero a b = refl
set_again (x ∷ xs) (suc i) a b = ap (λ l. x ∷ l) (set_again xs i a b)

-- as many elements as there are
pub refill_whole : {A : Type 0} (xs ws : List A) → length ws ≡ length xs → refill (length xs) xs ws ≡ ws
refill_whole xs ws same = rw (sym same) (ap (λ l. take (length ws) (ws ++ l)) (drop_all (length ws) xs (omega (arith, same))) ∙ ap (take (length ws)) (append-nil ws) ∙ take-length ws)

pub rests_are : (items lent new : List (Option Rest)) (w : ℕ) (e : Entry) → lent ≡ items → TakesFirst lent new w e → refill (length items) items new ≡ new
rests_are items lent new w e same t = refill_whole items new (ap length t.are ∙ length-set lent w t.left ∙ ap length same)
