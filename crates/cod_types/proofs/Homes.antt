-- Columns of one segment stand on nodes of their own.
use Rattle.std.proofs.Common.{◌≡◌, ℕ, ◌+◌, ◌-◌, ◌<◌, ◌≤◌, ◌%◌, arith, ⊎_elim, sym, ◌∙◌, ap}
use Rattle.std.proofs.Math.Nat.{mod-add-mod, mod-eq_of_lt, add-mod_right}
use Rattle.std.proofs.lemmas.Bool.{cases_lt}
use Rattle.cod_types.specs.Columns.{HomesDiffer}

-- a step of less than a whole round that comes back is none
no_step : (x nodes step : ℕ) → step < nodes → (x + step) % nodes ≡ x % nodes → step ≡ 0
no_step x nodes step less back =
    let r : ℕ = x % nodes in
    let small : r < nodes = omega arith in
    let e : (r + step) % nodes ≡ r = mod-add-mod x nodes step ∙ back in
    ⊎_elim
    (λ (fits : r + step < nodes). let f = mod-eq_of_lt fits in omega arith)
    (λ (past : nodes ≤ r + step).
    let rest : ℕ = r + step - nodes in
    let is : r + step ≡ rest + nodes = omega arith in
    let f : (r + step) % nodes ≡ rest % nodes = ap (λ (n : ℕ). n % nodes) is ∙ add-mod_right rest nodes in
    let low : rest < nodes = omega arith in
    let g = mod-eq_of_lt low in omega arith)
    (cases_lt (r + step) nodes)

pub same_place : (base nodes i j : ℕ) → i < nodes → j < nodes → (base + i) % nodes ≡ (base + j) % nodes → i ≡ j
same_place base nodes i j hi hj e =
    ⊎_elim
    (λ (less : i < j).
    let is : base + i + (j - i) ≡ base + j = omega arith in
    let back : (base + i + (j - i)) % nodes ≡ (base + i) % nodes = ap (λ (n : ℕ). n % nodes) is ∙ sym e in
    let short : j - i < nodes = omega arith in
    let none = no_step (base + i) nodes (j - i) short back in omega arith)
    (λ (more : j ≤ i).
    let is : base + j + (i - j) ≡ base + i = omega arith in
    let back : (base + j + (i - j)) % nodes ≡ (base + j) % nodes = ap (λ (n : ℕ). n % nodes) is ∙ e in
    let short : i - j < nodes = omega arith in
    let none = no_step (base + j) nodes (i - j) short back in omega arith)
    (cases_lt i j)

pub homes_differ : HomesDiffer
homes_differ seg nodes col other hc ho differ e = differ (same_place seg nodes col other hc ho e)
