-- The callers that seats have.
use Rattle.std.proofs.Common.{◌≡◌, ℕ, suc, ◌+◌, ◌≤◌, List, [], ◌∷◌, ◌++◌, length, refl, ap, ◌∙◌, arith, eqb, ltb, cond, Bool, true, false}
use Rattle.cod_seats.specs.Totals.{times, total}
use Rattle.cod_seats.specs.Least.{itself, lowest, least_of, all_but_least, AtLeast, IsLeast}
use Rattle.cod_seats.proofs.Least.{total_cut, is_least}
use Rattle.cod_turn.specs.Turning.{firsts, all_at, number}

module _ {T : Type 0} where
  pub firsts-all_at : (x : T) (cs : List ℕ) → firsts (all_at x cs) ≡ cs
  firsts-all_at x [] = refl
  firsts-all_at x (c ∷ cs) = ap (λ ks. c ∷ ks) (firsts-all_at x cs)

  pub length-all_at : (x : T) (cs : List ℕ) → length (all_at x cs) ≡ length cs
  length-all_at x [] = refl
  length-all_at x (c ∷ cs) = ap suc (length-all_at x cs)

  pub length-firsts : (ps : List (ℕ × T)) → length (firsts ps) ≡ length ps
  length-firsts [] = refl
  length-firsts (p ∷ ps) = ap suc (length-firsts ps)

  pub firsts-append : (ps qs : List (ℕ × T)) → firsts (ps ++ qs) ≡ firsts ps ++ firsts qs
  firsts-append [] qs = refl
  firsts-append (p ∷ ps) qs = ap (λ ks. p.0 ∷ ks) (firsts-append ps qs)

  count_firsts : (c : ℕ) (ps : List (ℕ × T)) → total (λ (p : ℕ × T). cond {A = ℕ} (eqb p.0 c) 1 0) ps ≡ times c (firsts ps)
  count_firsts c [] = refl
  count_firsts c (p ∷ ps) = let more = count_firsts c ps in omega arith

  pub times-cut : (c : ℕ) (ps : List (ℕ × T)) → times c (firsts (all_but_least number ps)) + times c (firsts (least_of number ps)) ≡ times c (firsts ps)
  times-cut c ps =
      let t = total_cut number (λ (p : ℕ × T). cond {A = ℕ} (eqb p.0 c) 1 0) ps in
      let a = count_firsts c (all_but_least number ps) in
      let b = count_firsts c (least_of number ps) in
      let d = count_firsts c ps in
      omega arith

  -- the least caller is the caller of the least item
  lowest_caller : (p : ℕ × T) (ps : List (ℕ × T)) → (lowest number p ps).0 ≡ lowest itself p.0 (firsts ps)
  lowest_caller p [] = refl
  lowest_caller p (q ∷ ps) = by_case (ltb q.0 p.0) (lowest_caller q ps) (lowest_caller p ps)
    where
      by_case : (b : Bool) → (lowest number q ps).0 ≡ lowest itself q.0 (firsts ps) → (lowest number p ps).0 ≡ lowest itself p.0 (firsts ps)
          → (cond b (lowest number q ps) (lowest number p ps)).0 ≡ cond b (lowest itself q.0 (firsts ps)) (lowest itself p.0 (firsts ps))
      by_case true e f = e
      by_case false e f = f

  pub has_least : (ps : List (ℕ × T)) (cs : List ℕ) → 2 ≤ length (firsts ps) → cs ≡ firsts (least_of number ps) → (n : ℕ) × (cs ≡ n ∷ []) × IsLeast n (firsts ps)
  has_least [] cs two is = absurd (omega arith)
  has_least (p ∷ ps) cs two is = (lowest itself p.0 (firsts ps), is ∙ ap (λ (n : ℕ). n ∷ []) (lowest_caller p ps), is_least p.0 (firsts ps))

  -- numbers in order
  pub all_at_least : (n : ℕ) (x : T) (cs : List ℕ) → AtLeast itself n cs → AtLeast number n (all_at x cs)
  all_at_least n x [] a = tt
  all_at_least n x (c ∷ cs) a = (a.0, all_at_least n x cs a.1)
