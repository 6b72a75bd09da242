-- Each caller's calls in the order of all.
use Rattle.std.proofs.Common.{◌≡◌, ◌⊎◌, ℕ, zero, suc, ◌+◌, ◌<◌, ◌≤◌, Bool, true, false, cond, Some, List, [], ◌∷◌, length, map, refl, sym, ap, ◌∙◌, subst, inl, inr, arith}
use Rattle.std.specs.Prelude.{slice_get}
use Rattle.std.specs.List.{filter, AllByRecursion}
use Rattle.std.proofs.lemmas.Bool.{cases_eq, eq-eqb, ne_eqb}
use Rattle.cod_chronicle.specs.declared.entry.Entry.{Entry}
use Rattle.cod_chronicle.specs.Order.{Placed, stamp_at, place, placed, placed_from, order}
use Rattle.cod_chronicle.specs.Laws.{is_at, is_by, Climbs, KeepsEachOrder}
use Rattle.cod_chronicle.proofs.Orders.{IsSorted, IsSorted-by_stamp, Each-filter, Each-by_stamp, Each-append}
use Rattle.cod_chronicle.proofs.Merging.{part_of_order, rise_of}

filter_comm : (p q : Placed → Bool) (ps : List Placed) → filter p (filter q ps) ≡ filter q (filter p ps)
filter_comm p q [] = refl
filter_comm p q (x ∷ ps) = by (p x) (q x) refl refl (filter_comm p q ps) where
  by : (b d : Bool) → p x ≡ b → q x ≡ d → filter p (filter q ps) ≡ filter q (filter p ps) → filter p (cond d (x ∷ filter q ps) (filter q ps)) ≡ filter q (cond b (x ∷ filter p ps) (filter p ps))
  by true true e f h = rw (e, f) (ap (λ (l : List Placed). x ∷ l) h)
  by true false e f h = rw f h
  by false true e f h = rw e h
  by false false e f h = h

IsSorted-filter : (k : Placed → Bool) (ps : List Placed) → IsSorted ps → IsSorted (filter k ps)
IsSorted-filter k [] s = tt
IsSorted-filter k (p ∷ ps) s = by (k p) (IsSorted-filter k ps s.1) where
  by : (b : Bool) → IsSorted (filter k ps) → IsSorted (cond b (p ∷ filter k ps) (filter k ps))
  by true h = (Each-filter (λ q. stamp_at p ≤ stamp_at q) k ps s.0, h)
  by false h = h

here : (p : Placed) (ps : List Placed) → filter (is_at p.segment) (p ∷ ps) ≡ p ∷ filter (is_at p.segment) ps
here p ps = ap (λ (b : Bool). cond b (p ∷ filter (is_at p.segment) ps) (filter (is_at p.segment) ps)) (eq-eqb p.segment p.segment refl)

elsewhere : (s : ℕ) (p : Placed) (ps : List Placed) → (p.segment ≡ s → ⊥) → filter (is_at s) (p ∷ ps) ≡ filter (is_at s) ps
elsewhere s p ps ne = ap (λ (b : Bool). cond b (p ∷ filter (is_at s) ps) (filter (is_at s) ps)) (ne_eqb p.segment s ne)

-- two lists in order with the same entries of each segment are equal
same_parts : (xs ys : List Placed) → IsSorted xs → Climbs ys → ((s : ℕ) → filter (is_at s) xs ≡ filter (is_at s) ys) → xs ≡ ys
same_parts [] [] a b f = refl
same_parts [] (y ∷ ys) a b f = (let e = f y.segment ∙ here y ys in cc)
same_parts (x ∷ xs) [] a b f = (let e = sym (here x xs) ∙ f x.segment in cc)
same_parts (x ∷ xs) (y ∷ ys) a b f = elim (cases_eq y.segment x.segment) [
  | inl same ↦
      let e : x ∷ filter (is_at x.segment) xs ≡ y ∷ filter (is_at x.segment) ys =
      sym (here x xs) ∙ f x.segment ∙ ap (λ (b : Bool). cond b (y ∷ filter (is_at x.segment) ys) (filter (is_at x.segment) ys)) (eq-eqb y.segment x.segment same) in
      let h : x ≡ y = cc in
      let t = same_parts xs ys a.1 b.1 (λ s. elim (cases_eq x.segment s) [
        | inl at ↦
            let d : filter (is_at x.segment) xs ≡ filter (is_at x.segment) ys = cc in
            subst (λ (s : ℕ). filter (is_at s) xs ≡ filter (is_at s) ys) at d
        | inr off ↦ sym (elsewhere s x xs off) ∙ f s ∙ elsewhere s y ys (λ e. off (sym same ∙ e))
      ]) in
      cc
  | inr diff ↦
      let e : filter (is_at x.segment) ys ≡ x ∷ filter (is_at x.segment) xs = sym (elsewhere x.segment y ys diff) ∙ sym (f x.segment) ∙ here x xs in
      let d : filter (is_at y.segment) xs ≡ y ∷ filter (is_at y.segment) ys = sym (elsewhere y.segment x xs (λ k. diff (sym k))) ∙ f y.segment ∙ here y ys in
      let low : AllByRecursion (λ q. stamp_at y < stamp_at q) (x ∷ filter (is_at x.segment) xs) =
      subst (λ (l : List Placed). AllByRecursion (λ q. stamp_at y < stamp_at q) l) e (Each-filter (λ q. stamp_at y < stamp_at q) (is_at x.segment) ys b.0) in
      let high : AllByRecursion (λ q. stamp_at x ≤ stamp_at q) (y ∷ filter (is_at y.segment) ys) =
      subst (λ (l : List Placed). AllByRecursion (λ q. stamp_at x ≤ stamp_at q) l) d (Each-filter (λ q. stamp_at x ≤ stamp_at q) (is_at y.segment) xs a.0) in
      absurd (omega arith)
]

nothing_past : (s n : ℕ) (ps : List Placed) → n ≤ s → AllByRecursion (λ p. p.segment < n) ps → filter (is_at s) ps ≡ []
nothing_past s n [] l a = refl
nothing_past s n (p ∷ ps) l a = elsewhere s p ps (λ e. absurd (omega arith)) ∙ nothing_past s n ps l a.1

at_segment : (hs : List (List Entry)) (s : ℕ) → ((h : List Entry) × (slice_get hs s ≡ Some h)) ⊎ (length hs ≤ s)
at_segment [] s = inr (omega arith)
at_segment (h ∷ hs) zero = inl (h, refl)
at_segment (h ∷ hs) (suc s) = elim (at_segment hs s) [ inl a ↦ inl a | inr b ↦ inr (omega arith) ]

segments_from : (i n : ℕ) (hs : List (List Entry)) → i + length hs ≤ n → AllByRecursion (λ p. p.segment < n) (placed_from i hs)
segments_from i n [] l = tt
segments_from i n (h ∷ hs) l = Each-append (λ p. p.segment < n) (map (λ e. place i e) h) (placed_from (i + 1) hs) (one i n h (omega arith)) (segments_from (i + 1) n hs (omega arith)) where
  one : (i n : ℕ) (h : List Entry) → i < n → AllByRecursion (λ p. p.segment < n) (map (λ e. place i e) h)
  one i n [] l = tt
  one i n (e ∷ h) l = (l, one i n h l)

segments_below : (hs : List (List Entry)) → AllByRecursion (λ p. p.segment < length hs) (placed hs)
segments_below hs = segments_from 0 (length hs) hs (omega arith)

pub keeps_each_order : KeepsEachOrder
keeps_each_order who hs own rise a =
    same_parts (filter (is_by who) (order hs)) own (IsSorted-filter (is_by who) (order hs) (IsSorted-by_stamp (placed hs))) a.climbs
    (λ s. elim (at_segment hs s) [
      | inl g ↦ filter_comm (is_at s) (is_by who) (order hs) ∙ ap (filter (is_by who)) (part_of_order s hs g.0 g.1 (rise_of hs s g.0 rise g.1)) ∙ a.there s g.0 g.1
      | inr past ↦
          filter_comm (is_at s) (is_by who) (order hs)
          ∙ ap (filter (is_by who)) (nothing_past s (length hs) (order hs) past (Each-by_stamp (λ p. p.segment < length hs) (placed hs) (segments_below hs)))
          ∙ sym (nothing_past s (length hs) own past a.within)
    ])
