-- Averages stay within their bound.
use Rattle.std.proofs.Common.{◌≡◌, ℕ, ◌+◌, ◌-◌, ◌*◌, ◌≤◌, sym, ap, ◌∙◌, arith}
use Rattle.std.proofs.lemmas.Nat.{mul-le}
use Rattle.std.proofs.Math.Nat.{add-mul, div-le_of_le-mul}
use Rattle.cod_predict.specs.Average.{InRange, used_share, next_average}

-- a sum of two numbers, weighted by parts of a whole
mean-le : (alpha share avg top : ℕ) → alpha ≤ top → share ≤ top → avg ≤ top → alpha * share + (top - alpha) * avg ≤ top * top
mean-le alpha share avg top a s v =
    let one : alpha * share ≤ alpha * top = mul-le alpha share alpha top (omega arith) s in
    let two : (top - alpha) * avg ≤ (top - alpha) * top = mul-le (top - alpha) avg (top - alpha) top (omega arith) v in
    let whole : alpha + (top - alpha) ≡ top = omega arith in
    let sum : alpha * top + (top - alpha) * top ≡ top * top = sym (add-mul alpha (top - alpha) top) ∙ ap (λ (n : ℕ). n * top) whole in
    omega (arith, one, two, sum)

pub used_share-le : (used size : ℕ) → used ≤ size → used_share used size ≤ 10000
used_share-le used size within = div-le_of_le-mul size (mul-le used 10000 size 10000 within (omega arith))

pub next_average-le : (alpha used size avg : ℕ) → alpha ≤ 10000 → InRange used size avg → next_average alpha used size avg ≤ 10000
next_average-le alpha used size avg a r =
    div-le_of_le-mul 10000 (mean-le alpha (used_share used size) avg 10000 a (used_share-le used size r.within) r.bounded)
