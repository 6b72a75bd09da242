-- One choice for each element of a list, and entries at their places.
use Rattle.std.proofs.Common.{◌≡◌, ℕ, zero, suc, ◌+◌, ◌<◌, ◌≤◌, Some, List, [], ◌∷◌, ◌++◌, length, length-append, map, refl, sym, ap, ◌∙◌, subst, arith, append_assoc}
use Rattle.std.specs.Prelude.{slice_get, Contains}
use Rattle.std.specs.List.{AllByRecursion, fold}
use Rattle.std.proofs.lemmas.List.{map-append}
use Rattle.std.proofs.lemmas.List.Elements.{Contains-append_left, Contains-append_right}
use Rattle.cod_chronicle.specs.declared.entry.Entry.{Entry}
use Rattle.cod_chronicle.specs.Order.{place, placed_from, stamp_at}
use Rattle.cod_chronicle.specs.Said.{stamp_of, clock_of, RisesFrom, StampsRise}
use Rattle.cod_chronicle.specs.Whole.{HasStamp}
use Rattle.cod_accounts.specs.Accounts.{At, StampIn}
use Rattle.cod_accounts.proofs.Accounting.{Each}
use Rattle.cod_accounts.proofs.Doing.{no_fall}

module _ {A : Type 0} where
  -- an element stands at each place below the length
  pub there_is : (xs : List A) (i : ℕ) → i < length xs → (x : A) × (slice_get xs i ≡ Some x)
  there_is [] i lt = absurd (omega arith)
  there_is (x ∷ xs) zero lt = (x, refl)
  there_is (x ∷ xs) (suc i) lt = there_is xs i (omega arith)

  -- what all elements have, as one list
  pub picked : {B : Type 0} (F : ℕ → A → Type 0) (g : (i : ℕ) (x : A) → F i x → B) (xs : List A) → ((i : ℕ) (x : A) → slice_get xs i ≡ Some x → F i x) → List B
  picked F g [] all = []
  picked F g (x ∷ xs) all = g 0 x (all 0 x refl) ∷ picked (λ i y. F (suc i) y) (λ i y f. g (suc i) y f) xs (λ i y is. all (suc i) y is)

  pub picked_at : {B : Type 0} (F : ℕ → A → Type 0) (g : (i : ℕ) (x : A) → F i x → B) (xs : List A) (all : (i : ℕ) (x : A) → slice_get xs i ≡ Some x → F i x) (i : ℕ) (x : A)
      → slice_get xs i ≡ Some x → (f : F i x) × (slice_get (picked F g xs all) i ≡ Some (g i x f))
  unfolding picked
  picked_at F g [] all i x is = absurd (cc is)
  picked_at {B} F g (y ∷ xs) all zero x is =
      let e : y ≡ x = cc is in
      subst (λ (z : A). (f : F 0 z) × (Some (g 0 y (all 0 y refl)) ≡ Some (g 0 z f))) e (all 0 y refl, refl)
  picked_at F g (y ∷ xs) all (suc i) x is = picked_at (λ i y. F (suc i) y) (λ i y f. g (suc i) y f) xs (λ i y is. all (suc i) y is) i x is

  pub picked_long : {B : Type 0} (F : ℕ → A → Type 0) (g : (i : ℕ) (x : A) → F i x → B) (xs : List A) (all : (i : ℕ) (x : A) → slice_get xs i ≡ Some x → F i x)
      → length (picked F g xs all) ≡ length xs
  unfolding picked
  picked_long F g [] all = refl
  picked_long F g (y ∷ xs) all = ap suc (picked_long (λ i y. F (suc i) y) (λ i y f. g (suc i) y f) xs (λ i y is. all (suc i) y is))

-- ---- entries

split_same : (xs ys : List Entry) (a b : Entry) (cs bs : List Entry) → xs ++ a ∷ cs ≡ ys ++ b ∷ bs → length xs ≡ length ys → (xs ≡ ys) × (a ≡ b)
split_same [] [] a b cs bs e long = (refl, cc e)
split_same [] (y ∷ ys) a b cs bs e long = absurd (omega arith)
split_same (x ∷ xs) [] a b cs bs e long = absurd (omega arith)
split_same (x ∷ xs) (y ∷ ys) a b cs bs e long =
    let head : x ≡ y = cc e in
    let rest = split_same xs ys a b cs bs (cc e) (omega arith) in (cc (head, rest.0), rest.1)

-- what holds at each place holds of each entry with those before it
pub places_each : (G : List Entry → Entry → Type 0) (h before rest : List Entry) → h ≡ before ++ rest → ((p : ℕ) → p < length h → At h p G) → Each G before rest
places_each G h before [] parts all = tt
places_each G h before (e ∷ rest) parts all =
    let long = ap length parts ∙ length-append before (e ∷ rest) in
    let a = all (length before) (omega arith) in
    let are = a.are in
    let same = split_same a.before before a.entry e a.after rest (sym are ∙ parts) a.place in (
      subst (λ (l : List Entry). G l e) same.0 (subst (λ (f : Entry). G a.before f) same.1 a.good),
      places_each G h (before ++ e ∷ []) rest (parts ∙ sym (append_assoc before (e ∷ []) rest)) all,
    )

-- ---- stamps

here : (i : ℕ) (pre post : List Entry) (e : Entry) → Contains (map stamp_at (map (λ e. place i e) (pre ++ e ∷ post))) (stamp_of e)
here i [] post e = Contains-append_left (stamp_of e ∷ []) (map stamp_at (map (λ e. place i e) post)) (stamp_of e) (0, omega arith, refl)
here i (x ∷ pre) post e = Contains-append_right (stamp_of x ∷ []) (map stamp_at (map (λ e. place i e) (pre ++ e ∷ post))) (stamp_of e) (here i pre post e)

-- an entry's stamp is one of all
pub in_placed : (i : ℕ) (hs : List (List Entry)) (s : ℕ) (h : List Entry) (t : ℕ) → slice_get hs s ≡ Some h → StampIn h t → HasStamp (placed_from i hs) t
in_placed i [] s h t is st = absurd (cc is)
in_placed i (g ∷ hs) zero h t is (pre, e, post, parts, stamp) =
    let same : g ≡ h = cc is in
    let at : Contains (map stamp_at (map (λ e. place i e) g)) (stamp_of e) =
    subst (λ (l : List Entry). Contains (map stamp_at (map (λ e. place i e) l)) (stamp_of e)) (sym (same ∙ parts)) (here i pre post e) in
    subst (HasStamp (placed_from i (g ∷ hs))) stamp (subst (λ (l : List ℕ). Contains l (stamp_of e)) (sym (map-append stamp_at (map (λ e. place i e) g) (placed_from (i + 1) hs)))
    (Contains-append_left (map stamp_at (map (λ e. place i e) g)) (map stamp_at (placed_from (i + 1) hs)) (stamp_of e) at))
in_placed i (g ∷ hs) (suc s) h t is st =
    subst (λ (l : List ℕ). Contains l t) (sym (map-append stamp_at (map (λ e. place i e) g) (placed_from (i + 1) hs)))
    (Contains-append_right (map stamp_at (map (λ e. place i e) g)) (map stamp_at (placed_from (i + 1) hs)) t (in_placed (i + 1) hs s h t is st))

rises_all : (t : ℕ) (h : List Entry) → RisesFrom t h → (t ≤ fold (λ t e. stamp_of e) t h) × AllByRecursion (λ e. stamp_of e ≤ fold (λ t e. stamp_of e) t h) h
rises_all t [] r = (omega arith, tt)
rises_all t (e ∷ h) r =
    let le = no_fall t (stamp_of e) r.0 in
    let rest = rises_all (stamp_of e) h r.1 in
    ((let a = rest.0 in omega (arith, a, le)), (rest.0, rest.1))

-- no stamp of a chronicle is greater than its clock
pub stamps_below : (h : List Entry) → StampsRise h → AllByRecursion (λ e. stamp_of e ≤ clock_of h) h
stamps_below [] r = tt
stamps_below (e ∷ h) r = let all = rises_all (stamp_of e) h r in (all.0, all.1)

all_at : (P : Entry → Type 0) (pre post : List Entry) (e : Entry) → AllByRecursion P (pre ++ e ∷ post) → P e
all_at P [] post e a = a.0
all_at P (x ∷ pre) post e a = all_at P pre post e a.1

pub stamp_below : (h : List Entry) (t : ℕ) → StampsRise h → StampIn h t → t ≤ clock_of h
stamp_below h t r (pre, e, post, parts, stamp) =
    let all = subst (AllByRecursion (λ e. stamp_of e ≤ clock_of h)) parts (stamps_below h r) in
    let le = all_at (λ e. stamp_of e ≤ clock_of h) pre post e all in
    omega (arith, le, stamp)
