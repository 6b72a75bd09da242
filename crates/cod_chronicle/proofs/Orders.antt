-- Entries by their stamps.
use Rattle.std.proofs.Common.{◌≡◌, ℕ, zero, suc, ◌+◌, ◌<◌, ◌≤◌, Bool, true, false, cond, Option, Some, None, List, [], ◌∷◌, ◌++◌, map, set, refl, sym, ap, ◌∙◌}
use Rattle.std.proofs.Common.{inl, inr, arith}
use Rattle.std.specs.Prelude.{slice_get, is_some, ⊤}
use Rattle.std.specs.List.{filter, filter_map, AllByRecursion, cons_option}
use Rattle.std.proofs.lemmas.Bool.{lt-ltb, le-ltb, cases_lt}
use Rattle.std.proofs.lemmas.List.{append_assoc, map-append}
use Rattle.std.proofs.lemmas.List.Elements.{filter-append, filter_map-append}
use Rattle.cod_chronicle.specs.declared.entry.Entry.{Entry}
use Rattle.cod_chronicle.specs.Order.{Placed, stamp_at, place, placed_from, put, by_stamp}

pub put_later : (p q : Placed) (qs : List Placed) → stamp_at q < stamp_at p → put p (q ∷ qs) ≡ q ∷ put p qs
put_later p q qs h = ap (λ (b : Bool). cond b (q ∷ put p qs) (p ∷ q ∷ qs)) (lt-ltb (stamp_at q) (stamp_at p) h)

pub put_here : (p q : Placed) (qs : List Placed) → stamp_at p ≤ stamp_at q → put p (q ∷ qs) ≡ p ∷ q ∷ qs
put_here p q qs h = ap (λ (b : Bool). cond b (q ∷ put p qs) (p ∷ q ∷ qs)) (le-ltb (stamp_at q) (stamp_at p) h)

module _ {X : Type 0} (P : X → Type 0) where
  pub Each-append : (xs ys : List X) → AllByRecursion P xs → AllByRecursion P ys → AllByRecursion P (xs ++ ys)
  Each-append [] ys a b = b
  Each-append (x ∷ xs) ys a b = (a.0, Each-append xs ys a.1 b)

  pub Each-left : (xs ys : List X) → AllByRecursion P (xs ++ ys) → AllByRecursion P xs
  Each-left [] ys a = tt
  Each-left (x ∷ xs) ys a = (a.0, Each-left xs ys a.1)

  pub Each-right : (xs ys : List X) → AllByRecursion P (xs ++ ys) → AllByRecursion P ys
  Each-right [] ys a = a
  Each-right (x ∷ xs) ys a = Each-right xs ys a.1

  pub Each-weaker : (Q : X → Type 0) → ((x : X) → P x → Q x) → (xs : List X) → AllByRecursion P xs → AllByRecursion Q xs
  Each-weaker Q f [] a = tt
  Each-weaker Q f (x ∷ xs) a = (f x a.0, Each-weaker Q f xs a.1)

  pub Each-filter : (k : X → Bool) (xs : List X) → AllByRecursion P xs → AllByRecursion P (filter k xs)
  Each-filter k [] a = tt
  Each-filter k (x ∷ xs) a = elim (k x) as (λ b. AllByRecursion P (cond b (x ∷ filter k xs) (filter k xs))) [ true ↦ (a.0, Each-filter k xs a.1) | false ↦ Each-filter k xs a.1 ]

-- the smallest first
abbrev pub IsSorted : List Placed → Type 0
IsSorted [] = ⊤
IsSorted (p ∷ ps) = AllByRecursion (λ q. stamp_at p ≤ stamp_at q) ps × IsSorted ps

pub Each-put : (P : Placed → Type 0) (p : Placed) (qs : List Placed) → P p → AllByRecursion P qs → AllByRecursion P (put p qs)
Each-put P p [] a b = (a, tt)
Each-put P p (q ∷ qs) a b = elim (cases_lt (stamp_at q) (stamp_at p)) [
  | inl h ↦ rw (put_later p q qs h) (b.0, Each-put P p qs a b.1)
  | inr h ↦ rw (put_here p q qs h) (a, b)
]

pub Each-by_stamp : (P : Placed → Type 0) (ps : List Placed) → AllByRecursion P ps → AllByRecursion P (by_stamp ps)
Each-by_stamp P [] a = tt
Each-by_stamp P (p ∷ ps) a = Each-put P p (by_stamp ps) a.0 (Each-by_stamp P ps a.1)

pub IsSorted-put : (p : Placed) (qs : List Placed) → IsSorted qs → IsSorted (put p qs)
IsSorted-put p [] s = (tt, tt)
IsSorted-put p (q ∷ qs) s = elim (cases_lt (stamp_at q) (stamp_at p)) [
  | inl h ↦ rw (put_later p q qs h) (Each-put (λ r. stamp_at q ≤ stamp_at r) p qs (omega arith) s.0, IsSorted-put p qs s.1)
  | inr h ↦ rw (put_here p q qs h) ((h, Each-weaker (λ r. stamp_at q ≤ stamp_at r) (λ r. stamp_at p ≤ stamp_at r) (λ r l. omega arith) qs s.0), s)
]

pub IsSorted-by_stamp : (ps : List Placed) → IsSorted (by_stamp ps)
IsSorted-by_stamp [] = tt
IsSorted-by_stamp (p ∷ ps) = IsSorted-put p (by_stamp ps) (IsSorted-by_stamp ps)

-- ahead of all
pub put_low : (p : Placed) (qs : List Placed) → AllByRecursion (λ q. stamp_at p ≤ stamp_at q) qs → put p qs ≡ p ∷ qs
put_low p [] a = refl
put_low p (q ∷ qs) a = put_here p q qs a.0

-- behind all
pub put_high : (p : Placed) (qs : List Placed) → AllByRecursion (λ q. stamp_at q < stamp_at p) qs → put p qs ≡ qs ++ p ∷ []
put_high p [] a = refl
put_high p (q ∷ qs) a = put_later p q qs a.0 ∙ ap (λ (l : List Placed). q ∷ l) (put_high p qs a.1)

pub put-push : (a p : Placed) (qs : List Placed) → stamp_at a ≤ stamp_at p → put a (qs ++ p ∷ []) ≡ put a qs ++ p ∷ []
put-push a p [] h = put_here a p [] h
put-push a p (q ∷ qs) h = elim (cases_lt (stamp_at q) (stamp_at a)) [
  | inl l ↦ put_later a q (qs ++ p ∷ []) l ∙ ap (λ (l : List Placed). q ∷ l) (put-push a p qs h) ∙ sym (ap (λ (l : List Placed). l ++ p ∷ []) (put_later a q qs l))
  | inr l ↦ put_here a q (qs ++ p ∷ []) l ∙ sym (ap (λ (l : List Placed). l ++ p ∷ []) (put_here a q qs l))
]

-- the last of all
pub by_stamp_last : (p : Placed) (xs ys : List Placed) → AllByRecursion (λ q. stamp_at q < stamp_at p) (xs ++ ys) → by_stamp (xs ++ p ∷ ys) ≡ by_stamp (xs ++ ys) ++ p ∷ []
by_stamp_last p [] ys h = put_high p (by_stamp ys) (Each-by_stamp (λ q. stamp_at q < stamp_at p) ys h)
by_stamp_last p (a ∷ xs) ys h = ap (put a) (by_stamp_last p xs ys h.1) ∙ put-push a p (by_stamp (xs ++ ys)) (omega arith)

module _ (k : Placed → Bool) where
  filter-put_no : (p : Placed) (qs : List Placed) → k p ≡ false → filter k (put p qs) ≡ filter k qs
  filter-put_no p [] out = rw out refl
  filter-put_no p (q ∷ qs) out = elim (cases_lt (stamp_at q) (stamp_at p)) [
    | inl h ↦ ap (filter k) (put_later p q qs h) ∙ ap (λ (l : List Placed). cond (k q) (q ∷ l) l) (filter-put_no p qs out)
    | inr h ↦ ap (filter k) (put_here p q qs h) ∙ ap (λ (b : Bool). cond b (p ∷ filter k (q ∷ qs)) (filter k (q ∷ qs))) out
  ]

  filter-put_yes : (p : Placed) (qs : List Placed) → k p ≡ true → IsSorted qs → filter k (put p qs) ≡ put p (filter k qs)
  filter-put_yes p [] kept s = rw kept refl
  filter-put_yes p (q ∷ qs) kept s = elim (cases_lt (stamp_at q) (stamp_at p)) [
    | inl h ↦ ap (filter k) (put_later p q qs h) ∙ ap (λ (l : List Placed). cond (k q) (q ∷ l) l) (filter-put_yes p qs kept s.1) ∙ kept_later p q qs h (k q)
    | inr h ↦ ap (filter k) (put_here p q qs h) ∙ ap (λ (b : Bool). cond b (p ∷ filter k (q ∷ qs)) (filter k (q ∷ qs))) kept
        ∙ sym (put_low p (filter k (q ∷ qs)) (Each-filter (λ r. stamp_at p ≤ stamp_at r) k (q ∷ qs)
        (h, Each-weaker (λ r. stamp_at q ≤ stamp_at r) (λ r. stamp_at p ≤ stamp_at r) (λ r l. omega arith) qs s.0)))
  ] where
    kept_later : (p q : Placed) (qs : List Placed) → stamp_at q < stamp_at p → (b : Bool) → cond b (q ∷ put p (filter k qs)) (put p (filter k qs)) ≡ put p (cond b (q ∷ filter k qs) (filter k qs))
    kept_later p q qs h true = sym (put_later p q (filter k qs) h)
    kept_later p q qs h false = refl

  kept_from : (p : Placed) (ps : List Placed) → filter k (by_stamp ps) ≡ by_stamp (filter k ps) → (b : Bool) → k p ≡ b
      → filter k (put p (by_stamp ps)) ≡ by_stamp (cond b (p ∷ filter k ps) (filter k ps))
  kept_from p ps h true e = filter-put_yes p (by_stamp ps) e (IsSorted-by_stamp ps) ∙ ap (put p) h
  kept_from p ps h false e = filter-put_no p (by_stamp ps) e ∙ h

  -- a part of the entries, in the order of all
  pub filter-by_stamp : (ps : List Placed) → filter k (by_stamp ps) ≡ by_stamp (filter k ps)
  filter-by_stamp [] = refl
  filter-by_stamp (p ∷ ps) = kept_from p ps (filter-by_stamp ps) (k p) refl

module _ {Y : Type 0} (f : Placed → Option Y) where
  keep_from : (o : Option Y) (p : Placed) (ps qs : List Placed) → f p ≡ o → filter_map f ps ≡ filter_map f qs → cons_option o (filter_map f ps) ≡ filter_map f (cond (is_some o) (p ∷ qs) qs)
  keep_from None p ps qs e h = h
  keep_from (Some y) p ps qs e h = ap (λ (l : List Y). y ∷ l) h ∙ sym (ap (λ (o : Option Y). cons_option o (filter_map f qs)) e)

  pub filter_map-keep : (ps : List Placed) → filter_map f ps ≡ filter_map f (filter (λ p. is_some (f p)) ps)
  filter_map-keep [] = refl
  filter_map-keep (p ∷ ps) = keep_from (f p) p ps (filter (λ p. is_some (f p)) ps) refl (filter_map-keep ps)

  -- what is said in order, by the entries that say it
  said : (ps : List Placed) → filter_map f (by_stamp ps) ≡ filter_map f (by_stamp (filter (λ p. is_some (f p)) ps))
  said ps = filter_map-keep (by_stamp ps) ∙ ap (filter_map f) (filter-by_stamp (λ p. is_some (f p)) ps)

  -- one more entry says nothing
  pub said_same : (p : Placed) (xs ys : List Placed) → f p ≡ None → filter_map f (by_stamp (xs ++ p ∷ ys)) ≡ filter_map f (by_stamp (xs ++ ys))
  said_same p xs ys none =
      let k : Placed → Bool = λ q. is_some (f q) in
      let e : filter k (xs ++ p ∷ ys) ≡ filter k (xs ++ ys) =
      filter-append k xs (p ∷ ys) ∙ ap (λ (o : Option Y). filter k xs ++ cond (is_some o) (p ∷ filter k ys) (filter k ys)) none ∙ sym (filter-append k xs ys) in
      said (xs ++ p ∷ ys) ∙ ap (λ (l : List Placed). filter_map f (by_stamp l)) e ∙ sym (said (xs ++ ys))

  -- one more entry says something, and all that say something have smaller stamps
  pub said_more : (p : Placed) (xs ys : List Placed) (y : Y) → f p ≡ Some y
      → AllByRecursion (λ q. stamp_at q < stamp_at p) (filter (λ q. is_some (f q)) (xs ++ ys))
      → filter_map f (by_stamp (xs ++ p ∷ ys)) ≡ filter_map f (by_stamp (xs ++ ys)) ++ y ∷ []
  said_more p xs ys y is low =
      let k : Placed → Bool = λ q. is_some (f q) in
      let e : filter k (xs ++ p ∷ ys) ≡ filter k xs ++ p ∷ filter k ys =
      filter-append k xs (p ∷ ys) ∙ ap (λ (o : Option Y). filter k xs ++ cond (is_some o) (p ∷ filter k ys) (filter k ys)) is in
      let d : filter k (xs ++ ys) ≡ filter k xs ++ filter k ys = filter-append k xs ys in
      let below : AllByRecursion (λ q. stamp_at q < stamp_at p) (filter k xs ++ filter k ys) = rw d at low in
      said (xs ++ p ∷ ys) ∙ ap (λ (l : List Placed). filter_map f (by_stamp l)) e
      ∙ ap (filter_map f) (by_stamp_last p (filter k xs) (filter k ys) below)
      ∙ filter_map-append f (by_stamp (filter k xs ++ filter k ys)) (p ∷ [])
      ∙ ap (λ (o : Option Y). filter_map f (by_stamp (filter k xs ++ filter k ys)) ++ cons_option o []) is
      ∙ ap (λ (l : List Y). l ++ y ∷ []) (ap (λ (l : List Placed). filter_map f (by_stamp l)) (sym d) ∙ sym (said (xs ++ ys)))

-- where the next entry of a segment goes
pub record Gap (i s : ℕ) (hs : List (List Entry)) (h : List Entry) : Type 0 where
  pub before : List Placed
  pub behind : List Placed
  pub are : placed_from i hs ≡ before ++ behind
  pub with_one : (e : Entry) → placed_from i (set hs s (h ++ e ∷ [])) ≡ before ++ place (i + s) e ∷ behind

pub gap : (i s : ℕ) (hs : List (List Entry)) (h : List Entry) → slice_get hs s ≡ Some h → Gap i s hs h
gap i s [] h is = cc
gap i zero (g ∷ hs) h is =
    let g_is : g ≡ h = cc in
    record {
      before = map (λ e. place i e) g;
      behind = placed_from (i + 1) hs;
      are = refl;
      with_one = λ e. ap (λ (l : List Placed). l ++ placed_from (i + 1) hs) (map-append (λ e. place i e) h (e ∷ []))
          ∙ append_assoc (map (λ e. place i e) h) (place i e ∷ []) (placed_from (i + 1) hs)
          ∙ (let z : i ≡ i + 0 = omega arith in cc);
    }
gap i (suc s) (g ∷ hs) h is =
    let r = gap (i + 1) s hs h is in
    record {
      before = map (λ e. place i e) g ++ r.before;
      behind = r.behind;
      are = ap (λ (l : List Placed). map (λ e. place i e) g ++ l) r.are ∙ sym (append_assoc (map (λ e. place i e) g) r.before r.behind);
      with_one = λ e. ap (λ (l : List Placed). map (λ e. place i e) g ++ l) (r.with_one e)
          ∙ sym (append_assoc (map (λ e. place i e) g) r.before (place (i + 1 + s) e ∷ r.behind))
          ∙ (let z : i + 1 + s ≡ i + suc s = omega arith in cc);
    }
