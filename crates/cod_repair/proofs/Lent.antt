-- Slices that are lent, and the sum of them.
use Rattle.std.proofs.Common.{◌≡◌, ◌≢◌, ℕ, zero, suc, ◌+◌, ◌<◌, ◌≤◌, List, [], ◌∷◌, All, Bor, length, take, get_or, set, map, replicate, bit_xor, Bool, true, cond}
use Rattle.std.proofs.Common.{refl, sym, ap, ap₂, subst, ◌∙◌, arith, add-one, inl, inr}
use Rattle.std.specs.Int.Bits.{xor_assoc}
use Rattle.std.proofs.lemmas.Bool.{cases_eq}
use Rattle.std.proofs.lemmas.List.{get_or-set_same, get_or-set_other, get_or-replicate, get_or-take, get_or_default, length-replicate, length-take, map-set, take_more, take-map}
use Rattle.cod_field.specs.Field.{product}
use Rattle.cod_kernel.specs.Sums.{added_all_scaled, sum_at}
use Rattle.cod_kernel.proofs.SumLaws.{added_all_scaled_at, AllLong}
use Rattle.cod_repair.specs.Pieces.{sum_of, with_lent}
use Rattle.cod_repair.proofs.Encoding.{behind_long}
use Rattle.cod_repair.proofs.Summing.{sum_of_more}
use Rattle.cod_repair.proofs.Windows.{sum_at_more, sum_of_same}

-- what the references lend
abbrev pub nows : List (Bor (List ℕ)) → List (List ℕ)
nows lent = map (λ (s : Bor (List ℕ)). s.now) lent

-- the first so many slices have so many bytes
abbrev pub AreLong : (lent : List (List ℕ)) (held n : ℕ) → Type 0
AreLong lent held n = (j : ℕ) → j < held → length (get_or lent j []) ≡ n

-- ---- the slices that are held are added

lent_at : (coefs : List ℕ) (lent : List (List ℕ)) (m x : ℕ) → m ≤ length coefs → m ≤ length lent
    → sum_at (take m coefs) (take m lent) x ≡ sum_of coefs (λ j. get_or (get_or lent j []) x 0) m
unfolding sum_at
lent_at coefs lent zero x few enough = refl
lent_at coefs lent (suc m) x few enough =
    let within : m < length coefs = omega arith in
    let there : m < length lent = omega arith in
    let byte = λ (j : ℕ). get_or (get_or lent j []) x 0 in
    let size : length (take m coefs) ≡ length (take m lent) = (let a = length-take {A = ℕ} m coefs in let b = length-take {A = List ℕ} m lent in omega (arith, a, b)) in
    subst (λ (n : ℕ). sum_at (take n coefs) (take n lent) x ≡ sum_of coefs byte n) (add-one m)
    (ap₂ (λ (s : List ℕ) (l : List (List ℕ)). sum_at s l x) (take_more coefs m 0 within) (take_more lent m [] there)
    ∙ sum_at_more (take m coefs) (take m lent) (get_or coefs m 0) (get_or lent m []) x size
    ∙ ap (λ (s : ℕ). bit_xor s (product (get_or coefs m 0) (byte m))) (lent_at coefs lent m x (omega arith) (omega arith))
    ∙ sym (sum_of_more coefs byte m))

front_long : (lent : List (List ℕ)) (held n : ℕ) → held ≤ length lent → AreLong lent held n → AllLong n (take held lent)
front_long lent held n enough long m d lt =
    let low : m < held = (let l = length-take {A = List ℕ} held lent in omega (arith, l, lt)) in
    let there : m < length lent = omega arith in
    ap (λ (ys : List ℕ). length ys) (get_or-take held lent m d low ∙ get_or_default lent m d [] there) ∙ long m low

nows_front : (lent : List (Bor (List ℕ))) (held : ℕ) → nows (take held lent) ≡ take held (nows lent)
nows_front lent held = sym (take-map (λ (s : Bor (List ℕ)). s.now) held lent)

length-nows : (lent : List (Bor (List ℕ))) → length (nows lent) ≡ length lent
length-nows [] = refl
length-nows (s ∷ lent) = ap suc (length-nows lent)

pub lent_long : (lent : List (Bor (List ℕ))) (held n : ℕ) → held ≤ length lent → AreLong (nows lent) held n → All (λ (s : Bor (List ℕ)). length s.now ≡ n) (take held lent)
lent_long lent held n enough long =
    behind_long n (take held lent) (rw (nows_front lent held) (front_long (nows lent) held n (omega (arith, enough, length-nows lent)) long))

pub added_lent : (coefs xs into : List ℕ) (lent : List (Bor (List ℕ))) (held n : ℕ) → held ≤ length coefs → held ≤ length lent → length xs ≡ n → AreLong (nows lent) held n
    → into ≡ added_all_scaled xs (take held coefs) (nows (take held lent))
    → (x : ℕ) → x < n → get_or into x 0 ≡ bit_xor (get_or xs x 0) (sum_of coefs (λ j. get_or (get_or (nows lent) j []) x 0) held)
added_lent coefs xs into lent held n few enough size long is x lt =
    let there : held ≤ length (nows lent) = omega (arith, enough, length-nows lent) in
    ap (λ (l : List ℕ). get_or l x 0) (is ∙ ap (added_all_scaled xs (take held coefs)) (nows_front lent held))
    ∙ added_all_scaled_at xs (take held coefs) (take held (nows lent)) x (rw size (front_long (nows lent) held n there long))
    ∙ ap (bit_xor (get_or xs x 0)) (lent_at coefs (nows lent) held x few there)

-- fresh bytes are set
pub set_lent : (coefs old into : List ℕ) (lent : List (Bor (List ℕ))) (held n : ℕ) → held ≤ length coefs → held ≤ length lent → AreLong (nows lent) held n
    → into ≡ added_all_scaled (replicate n 0) (take held coefs) (nows (take held lent))
    → (x : ℕ) → x < n → get_or into x 0 ≡ with_lent true old coefs (nows lent) held x
set_lent coefs old into lent held n few enough long is x lt =
    added_lent coefs (replicate n 0) into lent held n few enough (length-replicate {A = ℕ} n 0) long is x lt
    ∙ ap (λ (z : ℕ). bit_xor z (sum_of coefs (λ j. get_or (get_or (nows lent) j []) x 0) held)) (get_or-replicate n x 0 0 lt)

-- ---- one slice more

below : (j held : ℕ) → j < held → j ≢ held
below j held low = omega arith

pub long_more : (lent : List (Bor (List ℕ))) (held n : ℕ) (y : Bor (List ℕ)) → held < length lent → length y.now ≡ n → AreLong (nows lent) held n
    → AreLong (nows (set lent held y)) (held + 1) n
long_more lent held n y few size long j low =
    let all = map-set (λ (s : Bor (List ℕ)). s.now) lent held y in
    let there : held < length (nows lent) = omega (arith, few, length-nows lent) in
    elim (cases_eq j held) [
      | inl here ↦ ap (λ (l : List (List ℕ)). length (get_or l j [])) all
          ∙ rw here (ap (λ (ys : List ℕ). length ys) (get_or-set_same (nows lent) held y.now [] there) ∙ size)
      | inr other ↦ ap (λ (l : List (List ℕ)). length (get_or l j [])) all
          ∙ ap (λ (ys : List ℕ). length ys) (get_or-set_other (nows lent) held j y.now [] other) ∙ long j (omega (arith, low, other))
    ]

pub long_fewer : (lent : List (List ℕ)) (held fewer n : ℕ) → fewer ≤ held → AreLong lent held n → AreLong lent fewer n
long_fewer lent held fewer n le long j low = long j (omega (arith, le, low))

-- one source more
pub lent_more : (fresh : Bool) (into coefs row : List ℕ) (lent : List (Bor (List ℕ))) (y : Bor (List ℕ)) (held x i : ℕ) (byte : ℕ → ℕ) → held < length coefs → held < length lent
    → get_or y.now x 0 ≡ byte i
    → with_lent fresh into coefs (nows lent) held x ≡ sum_of row byte i
    → with_lent fresh into (set coefs held (get_or row i 0)) (nows (set lent held y)) (held + 1) x ≡ sum_of row byte (i + 1)
lent_more fresh into coefs row lent y held x i byte few enough here now =
    let all = map-set (λ (s : Bor (List ℕ)). s.now) lent held y in
    let there : held < length (nows lent) = omega (arith, enough, length-nows lent) in
    let base = cond fresh 0 (get_or into x 0) in
    let c = get_or row i 0 in
    let after = set (nows lent) held y.now in
    let is = λ (j : ℕ). get_or (get_or after j []) x 0 in
    let was = λ (j : ℕ). get_or (get_or (nows lent) j []) x 0 in
    let coef : (j : ℕ) → j < held → get_or (set coefs held c) j 0 ≡ get_or coefs j 0 = λ j low. get_or-set_other coefs held j c 0 (below j held low) in
    let other : (j : ℕ) → j < held → is j ≡ was j = λ j low. ap (λ (ys : List ℕ). get_or ys x 0) (get_or-set_other (nows lent) held j y.now [] (below j held low)) in
    ap (λ (l : List (List ℕ)). with_lent fresh into (set coefs held c) l (held + 1) x) all
    ∙ ap (bit_xor base)
    (sum_of_more (set coefs held c) is held
    ∙ ap₂ (λ (s p : ℕ). bit_xor s p) (sum_of_same (set coefs held c) coefs is was held coef other)
    (ap₂ product (get_or-set_same coefs held c 0 few) (ap (λ (ys : List ℕ). get_or ys x 0) (get_or-set_same (nows lent) held y.now [] there) ∙ here)))
    ∙ sym (xor_assoc base (sum_of coefs was held) (product c (byte i)))
    ∙ ap (λ (s : ℕ). bit_xor s (product c (byte i))) now
    ∙ sym (sum_of_more row byte i)
