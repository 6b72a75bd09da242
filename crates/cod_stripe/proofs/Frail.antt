-- The nodes on which a shelf may fail.
use Rattle.std.proofs.Common.{◌≡◌, inl, inr, ℕ, zero, suc, ◌+◌, ◌<◌, ◌≤◌, List, [], ◌∷◌, ◌++◌, Bool, true, false, cond, refl, sym, ap, ◌∙◌, append-nil, arith, eq-eqb, ne_eqb}
use Rattle.std.specs.Prelude.{◌==◌, filter, not}
use Rattle.std.specs.List.{list_any, range_with_len}
use Rattle.std.proofs.lemmas.Bool.{cases_eq}
use Rattle.std.proofs.lemmas.List.{map-id}
use Rattle.std.proofs.lemmas.List.FromFn.{filter_of_map_range_with_len_more}
use Rattle.cod_types.specs.declared.call.NodeId.{NodeId}
use Rattle.cod_chronicle.specs.Legal.{node_id}
use Rattle.cod_seg.specs.Sound.{is_frail}
use Rattle.cod_stripe.specs.Building.{frail_below}

passes_more : (p : ℕ → Bool) (n : ℕ) → filter p (range_with_len 0 (n + 1)) ≡ filter p (range_with_len 0 n) ++ cond (p n) (n ∷ []) []
passes_more p n =
    ap (filter p) (sym (map-id (range_with_len 0 (n + 1)))) ∙ (filter_of_map_range_with_len_more p (λ x. x) 0 n n (omega arith)
    ∙ ap (λ (xs : List ℕ). filter p xs ++ cond (p n) (n ∷ []) []) (map-id (range_with_len 0 n)))

pub one_more : (never_fail : NodeId → Bool) (n : ℕ) (may : Bool) (before after : List ℕ) → before ≡ frail_below never_fail n → may ≡ not (never_fail (node_id n)) → may ≡ true
    → after ≡ before ++ n ∷ [] → after ≡ frail_below never_fail (n + 1)
one_more never_fail n may before after so_far is fails more =
    more ∙ (ap (λ (xs : List ℕ). xs ++ n ∷ []) so_far ∙ sym (passes_more (λ x. not (never_fail (node_id x))) n
    ∙ ap (λ (b : Bool). frail_below never_fail n ++ cond b (n ∷ []) []) (sym is ∙ fails)))

pub none_more : (never_fail : NodeId → Bool) (n : ℕ) (may : Bool) (before : List ℕ) → before ≡ frail_below never_fail n → may ≡ not (never_fail (node_id n)) → may ≡ false
    → before ≡ frail_below never_fail (n + 1)
none_more never_fail n may before so_far is never =
    so_far ∙ (sym (append-nil (frail_below never_fail n)) ∙ sym (passes_more (λ x. not (never_fail (node_id x))) n
    ∙ ap (λ (b : Bool). frail_below never_fail n ++ cond b (n ∷ []) []) (sym is ∙ never)))

-- what isn't among the numbers that pass doesn't pass
fails_outside : (p : ℕ → Bool) (x a n : ℕ) → a ≤ x → x < a + n → list_any (λ y. y == x) (filter p (range_with_len a n)) ≡ false → p x ≡ false
fails_outside p x a zero low high none = absurd (omega (arith, low, high))
fails_outside p x a (suc n) low high none = by (p a) refl none (λ f diff. fails_outside p x (a + 1) n (omega (arith, low, diff)) (omega (arith, high)) f) where
  by : (b : Bool) → p a ≡ b → list_any (λ y. y == x) (cond b (a ∷ filter p (range_with_len (a + 1) n)) (filter p (range_with_len (a + 1) n))) ≡ false
      → (list_any (λ y. y == x) (filter p (range_with_len (a + 1) n)) ≡ false → (a ≡ x → ⊥) → p x ≡ false) → p x ≡ false
  by true is none on = elim (cases_eq a x) [
    | inl same ↦ (let e : (a == x) ≡ true = eq-eqb a x same in cc)
    | inr diff ↦ (let e : (a == x) ≡ false = ne_eqb a x diff in on (rw e at none) diff)
  ]
  by false is none on = elim (cases_eq a x) [
    | inl same ↦ sym (ap p same) ∙ is
    | inr diff ↦ on none diff
  ]

-- a node that isn't frail is one on which no region of the shelf fails
pub sure_below : (never_fail : NodeId → Bool) (nodes : ℕ) (node : NodeId) → node.0 < nodes → is_frail (frail_below never_fail nodes) node.0 ≡ false → never_fail node ≡ true
sure_below never_fail nodes node there none =
    let e = fails_outside (λ x. not (never_fail (node_id x))) node.0 0 nodes (omega arith) (omega (arith, there)) none in
    by (never_fail node) e where
      by : (b : Bool) → not b ≡ false → b ≡ true
      by true e = refl
      by false e = cc
