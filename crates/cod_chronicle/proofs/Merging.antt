-- The first entry of all, and an order taken apart again.
use Rattle.std.proofs.Common.{◌≡◌, ◌⊎◌, ℕ, zero, suc, ◌+◌, ◌<◌, ◌≤◌, Bool, cond, Some, List, [], ◌∷◌, ◌++◌, length, map, set, refl, sym, ap, ◌∙◌, subst, inl, inr, arith}
use Rattle.std.specs.Prelude.{slice_get}
use Rattle.std.specs.List.{filter, AllByRecursion}
use Rattle.std.proofs.lemmas.Bool.{eq-eqb, ne_eqb}
use Rattle.std.proofs.lemmas.List.{append-nil, append_assoc}
use Rattle.std.proofs.lemmas.List.Elements.{filter-append}
use Rattle.cod_chronicle.specs.declared.entry.Entry.{Entry}
use Rattle.cod_chronicle.specs.Said.{stamp_of, RisesFrom, StampsRise}
use Rattle.cod_chronicle.specs.Order.{Placed, stamp_at, place, placed, placed_from, put, by_stamp, order}
use Rattle.cod_chronicle.specs.Laws.{is_at}
use Rattle.cod_chronicle.proofs.Orders.{put_later, put_low, Each-append, Each-by_stamp, Each-weaker, filter-by_stamp}

-- ahead of all that stand ahead of it by segment, and no later than those behind
by_stamp_first : (p : Placed) (xs ys : List Placed) → AllByRecursion (λ q. stamp_at p < stamp_at q) xs → AllByRecursion (λ q. stamp_at p ≤ stamp_at q) ys
    → by_stamp (xs ++ p ∷ ys) ≡ p ∷ by_stamp (xs ++ ys)
by_stamp_first p [] ys a b = put_low p (by_stamp ys) (Each-by_stamp (λ q. stamp_at p ≤ stamp_at q) ys b)
by_stamp_first p (x ∷ xs) ys a b = ap (put x) (by_stamp_first p xs ys a.1 b) ∙ put_later x p (by_stamp (xs ++ ys)) a.0

-- a chronicle whose stamps rise has none below its first
pub rises_above : (m t s : ℕ) (h : List Entry) → m ≤ t → RisesFrom t h → AllByRecursion (λ q. m ≤ stamp_at q) (map (λ e. place s e) h)
rises_above m t s [] l r = tt
rises_above m t s (e ∷ h) l r =
    let k : m ≤ stamp_of e = elim (r.0) [ inl a ↦ omega arith | inr b ↦ (let x = b.0 in let y = b.1 in omega arith) ] in
    (k, rises_above m (stamp_of e) s h k r.1)

-- the stamps of each chronicle rise
abbrev pub AllRise : List (List Entry) → Type 0
AllRise hs = AllByRecursion StampsRise hs

abbrev pub NotBelow : ℕ → List Entry → Type 0
NotBelow m [] = Unit {0}
NotBelow m (e ∷ h) = m ≤ stamp_of e

none_below : (m s : ℕ) (h : List Entry) → NotBelow m h → StampsRise h → AllByRecursion (λ q. m ≤ stamp_at q) (map (λ e. place s e) h)
none_below m s [] l r = tt
none_below m s (e ∷ h) l r = (l, rises_above m (stamp_of e) s h l r)

all_not_below : (m s : ℕ) (hs : List (List Entry)) → AllByRecursion (NotBelow m) hs → AllRise hs → AllByRecursion (λ q. m ≤ stamp_at q) (placed_from s hs)
all_not_below m s [] l r = tt
all_not_below m s (h ∷ hs) l r =
    Each-append (λ q. m ≤ stamp_at q) (map (λ e. place s e) h) (placed_from (s + 1) hs) (none_below m s h l.0 r.0) (all_not_below m (s + 1) hs l.1 r.1)

-- the segment s is the first whose chronicle begins with the least stamp, t
abbrev pub IsFirst : ℕ → ℕ → List (List Entry) → Type 0
IsFirst t s [] = Unit {0}
IsFirst t zero (h ∷ hs) = AllByRecursion (NotBelow t) hs
IsFirst t (suc s) (h ∷ hs) = NotBelow (t + 1) h × IsFirst t s hs

record Taken (i s : ℕ) (hs : List (List Entry)) (e : Entry) (rest : List Entry) : Type 0 where
  before : List Placed
  behind : List Placed
  are : placed_from i hs ≡ before ++ place (i + s) e ∷ behind
  without : placed_from i (set hs s rest) ≡ before ++ behind
  above : AllByRecursion (λ q. stamp_of e < stamp_at q) before
  below : AllByRecursion (λ q. stamp_of e ≤ stamp_at q) behind

taken : (i s : ℕ) (hs : List (List Entry)) (e : Entry) (rest : List Entry) → slice_get hs s ≡ Some (e ∷ rest) → IsFirst (stamp_of e) s hs → AllRise hs → Taken i s hs e rest
taken i s [] e rest is f r = cc
taken i zero (h ∷ hs) e rest is f r =
    let h_is : h ≡ e ∷ rest = cc in
    let z : i + 0 ≡ i = omega arith in
    record {
      before = [];
      behind = map (λ e. place i e) rest ++ placed_from (i + 1) hs;
      are = ap (λ (l : List Entry). map (λ e. place i e) l ++ placed_from (i + 1) hs) h_is ∙ ap (λ (j : ℕ). place j e ∷ (map (λ e. place i e) rest ++ placed_from (i + 1) hs)) (sym z);
      without = refl;
      above = tt;
      below =
          let rises : RisesFrom (stamp_of e) rest = (let a : StampsRise (e ∷ rest) = subst StampsRise h_is r.0 in a) in
          Each-append (λ q. stamp_of e ≤ stamp_at q) (map (λ e. place i e) rest) (placed_from (i + 1) hs)
          (rises_above (stamp_of e) (stamp_of e) i rest (omega arith) rises) (all_not_below (stamp_of e) (i + 1) hs f r.1);
    }
taken i (suc s) (h ∷ hs) e rest is f r =
    let t = taken (i + 1) s hs e rest is f.1 r.1 in
    let z : i + 1 + s ≡ i + suc s = omega arith in
    let ones : AllByRecursion (λ q. stamp_of e + 1 ≤ stamp_at q) (map (λ e. place i e) h) = none_below (stamp_of e + 1) i h f.0 r.0 in
    record {
      before = map (λ e. place i e) h ++ t.before;
      behind = t.behind;
      are = ap (λ (l : List Placed). map (λ e. place i e) h ++ l) (t.are ∙ ap (λ (j : ℕ). t.before ++ place j e ∷ t.behind) z)
          ∙ sym (append_assoc (map (λ e. place i e) h) t.before (place (i + suc s) e ∷ t.behind));
      without = ap (λ (l : List Placed). map (λ e. place i e) h ++ l) t.without ∙ sym (append_assoc (map (λ e. place i e) h) t.before t.behind);
      above = Each-append (λ q. stamp_of e < stamp_at q) (map (λ e. place i e) h) t.before
          (Each-weaker (λ q. stamp_of e + 1 ≤ stamp_at q) (λ q. stamp_of e < stamp_at q) (λ q l. omega arith) (map (λ e. place i e) h) ones) t.above;
      below = t.below;
    }

-- the walk's step: the first entry is out, the rest is in order
pub order_step : (s : ℕ) (hs : List (List Entry)) (e : Entry) (rest : List Entry) → slice_get hs s ≡ Some (e ∷ rest) → IsFirst (stamp_of e) s hs → AllRise hs
    → order hs ≡ place s e ∷ order (set hs s rest)
order_step s hs e rest is f r =
    let t = taken 0 s hs e rest is f r in
    let z : 0 + s ≡ s = omega arith in
    ap by_stamp t.are ∙ by_stamp_first (place (0 + s) e) t.before t.behind t.above t.below ∙ ap (λ (l : List Placed). place (0 + s) e ∷ by_stamp l) (sym t.without)
    ∙ ap (λ (j : ℕ). place j e ∷ order (set hs s rest)) z

-- and the walk's end
pub order_end : (hs : List (List Entry)) → AllByRecursion (λ h. h ≡ []) hs → order hs ≡ []
order_end hs a = ap by_stamp (none 0 hs a) where
  none : (i : ℕ) (hs : List (List Entry)) → AllByRecursion (λ h. h ≡ []) hs → placed_from i hs ≡ []
  none i [] a = refl
  none i (h ∷ hs) a = ap (λ (l : List Entry). map (λ e. place i e) l ++ placed_from (i + 1) hs) a.0 ∙ none (i + 1) hs a.1

-- The chronicles are told by the order of all entries.
own : (s : ℕ) (h : List Entry) → filter (is_at s) (map (λ e. place s e) h) ≡ map (λ e. place s e) h
own s [] = refl
own s (e ∷ h) = ap (λ (b : Bool). cond b (place s e ∷ filter (is_at s) (map (λ e. place s e) h)) (filter (is_at s) (map (λ e. place s e) h))) (eq-eqb s s refl)
    ∙ ap (λ (l : List Placed). place s e ∷ l) (own s h)

pub foreign : (s i : ℕ) (h : List Entry) → i < s ⊎ s < i → filter (is_at s) (map (λ e. place i e) h) ≡ []
foreign s i [] ne = refl
foreign s i (e ∷ h) ne =
    ap (λ (b : Bool). cond b (place i e ∷ filter (is_at s) (map (λ e. place i e) h)) (filter (is_at s) (map (λ e. place i e) h)))
    (ne_eqb i s (λ same. elim ne [ inl a ↦ absurd (omega arith) | inr b ↦ absurd (omega arith) ])) ∙ foreign s i h ne

none_later : (s i : ℕ) (hs : List (List Entry)) → s < i → filter (is_at s) (placed_from i hs) ≡ []
none_later s i [] l = refl
none_later s i (h ∷ hs) l =
    filter-append (is_at s) (map (λ e. place i e) h) (placed_from (i + 1) hs) ∙ ap (λ (l : List Placed). l ++ filter (is_at s) (placed_from (i + 1) hs)) (foreign s i h (inr l))
    ∙ none_later s (i + 1) hs (omega arith)

-- of all entries, those of a segment
filter-placed : (s i : ℕ) (hs : List (List Entry)) (h : List Entry) → slice_get hs s ≡ Some h → filter (is_at (i + s)) (placed_from i hs) ≡ map (λ e. place (i + s) e) h
filter-placed s i [] h is = cc
filter-placed zero i (g ∷ hs) h is =
    let z : i + 0 ≡ i = omega arith in
    let same : g ≡ h = cc in
    subst (λ (j : ℕ). filter (is_at j) (map (λ e. place i e) g ++ placed_from (i + 1) hs) ≡ map (λ e. place j e) h) (sym z)
    (filter-append (is_at i) (map (λ e. place i e) g) (placed_from (i + 1) hs) ∙ ap (λ (l : List Placed). filter (is_at i) (map (λ e. place i e) g) ++ l) (none_later i (i + 1) hs (omega arith))
    ∙ append-nil (filter (is_at i) (map (λ e. place i e) g)) ∙ own i g ∙ ap (map (λ e. place i e)) same)
filter-placed (suc s) i (g ∷ hs) h is =
    let z : i + 1 + s ≡ i + suc s = omega arith in
    filter-append (is_at (i + suc s)) (map (λ e. place i e) g) (placed_from (i + 1) hs)
    ∙ ap (λ (l : List Placed). l ++ filter (is_at (i + suc s)) (placed_from (i + 1) hs)) (foreign (i + suc s) i g (inl (omega arith)))
    ∙ subst (λ (j : ℕ). filter (is_at j) (placed_from (i + 1) hs) ≡ map (λ e. place j e) h) z (filter-placed s (i + 1) hs h is)

in_order : (s t : ℕ) (h : List Entry) → RisesFrom t h → by_stamp (map (λ e. place s e) h) ≡ map (λ e. place s e) h
in_order s t [] r = refl
in_order s t (e ∷ h) r = ap (put (place s e)) (in_order s (stamp_of e) h r.1) ∙ put_low (place s e) (map (λ e. place s e) h) (rises_above (stamp_of e) (stamp_of e) s h (omega arith) r.1)

pub rise_of : (hs : List (List Entry)) (s : ℕ) (h : List Entry) → AllRise hs → slice_get hs s ≡ Some h → StampsRise h
rise_of [] s h a is = cc
rise_of (g ∷ hs) zero h a is = (let same : g ≡ h = cc in subst StampsRise same a.0)
rise_of (g ∷ hs) (suc s) h a is = rise_of hs s h a.1 is

-- a chronicle is what the order has of its segment
pub part_of_order : (s : ℕ) (hs : List (List Entry)) (h : List Entry) → slice_get hs s ≡ Some h → StampsRise h → filter (is_at s) (order hs) ≡ map (λ e. place s e) h
part_of_order s hs h is r =
    let z : 0 + s ≡ s = omega arith in
    filter-by_stamp (is_at s) (placed hs)
    ∙ ap by_stamp (subst (λ (j : ℕ). filter (is_at j) (placed hs) ≡ map (λ e. place j e) h) z (filter-placed s 0 hs h is))
    ∙ rises_in_order h r where
      rises_in_order : (h : List Entry) → StampsRise h → by_stamp (map (λ e. place s e) h) ≡ map (λ e. place s e) h
      rises_in_order [] r = refl
      rises_in_order (e ∷ h) r = ap (put (place s e)) (in_order s (stamp_of e) h r) ∙ put_low (place s e) (map (λ e. place s e) h) (rises_above (stamp_of e) (stamp_of e) s h (omega arith) r)

unplaced : (s : ℕ) (h k : List Entry) → map (λ e. place s e) h ≡ map (λ e. place s e) k → h ≡ k
unplaced s [] [] e = refl
unplaced s [] (f ∷ k) e = cc
unplaced s (g ∷ h) [] e = cc
unplaced s (g ∷ h) (f ∷ k) e =
    let heads : place s g ≡ place s f = cc in
    let tails : map (λ e. place s e) h ≡ map (λ e. place s e) k = cc in
    let a : g ≡ f = ap (λ (p : Placed). p.entry) heads in
    let b = unplaced s h k tails in
    cc

-- two equal orders are of equal chronicles
pub same_chronicles : (hs ks : List (List Entry)) → length hs ≡ length ks → AllRise hs → AllRise ks → order hs ≡ order ks → (s : ℕ) (h k : List Entry) → slice_get hs s ≡ Some h
    → slice_get ks s ≡ Some k → h ≡ k
same_chronicles hs ks l a b e s h k i j =
    unplaced s h k (sym (part_of_order s hs h i (rise_of hs s h a i)) ∙ ap (filter (is_at s)) e ∙ part_of_order s ks k j (rise_of ks s k b j))
