-- The room that a record takes.
use Rattle.std.proofs.Common.{◌≡◌, ℕ, ◌+◌, ◌*◌, ◌≤◌, List, length, refl, ap, ◌∙◌, arith, inl, inr, mul-le-mul_right}
use Rattle.std.proofs.lemmas.Bool.{cases_eq}
use Rattle.std.proofs.lemmas.List.{length-map}
use Rattle.cod_field.specs.Field.{product}
use Rattle.cod_types.specs.Limits.{floor, IsWithin, record_overhead, Shape}
use Rattle.cod_record.specs.declared.parts.Head.{Head}
use Rattle.cod_parity.specs.Log.{logged, logged_length, scaled, text}
use Rattle.cod_parity.specs.State.{IsKept, State}
use Rattle.cod_parity.proofs.Spelled.{first_length_is, length-logged}

times_one : (k m : ℕ) → 1 ≤ k → m ≤ k * m
times_one k m some = omega (arith, mul-le-mul_right {m = 1} {n = k} m some)

-- the floor has room for a record of the longest update
pub floor_least : (g : Shape) → IsWithin g → record_overhead g.version + g.update ≤ floor g
floor_least g within = times_one g.k (record_overhead g.version + g.update) within.some_data

pub length-scaled : (coef : ℕ) (bytes : List ℕ) → length (scaled coef bytes) ≡ length bytes
length-scaled coef bytes = length-map bytes (product coef)

-- what `append` asks of its version
abbrev pub AsksVersion : (s : State) (version len : ℕ) → Type 0
AsksVersion s version len = version ≡ 2 → (s.shape.version ≡ 2) × (len ≤ s.shape.update)

pub second_short : (s : State) (version len : ℕ) → IsKept s → AsksVersion s version len → version ≡ 2 → len ≤ 65536
second_short s version len kept asks second = let a = asks second in omega (arith, a.1, kept.within.most_update)

pub second_room : (s : State) (version len : ℕ) → IsKept s → AsksVersion s version len → version ≡ 2 → 21 + len ≤ s.shape.reserve
second_room s version len kept asks second =
    let a = asks second in
    let over : record_overhead s.shape.version ≡ 21 = rw a.0 refl in
    let least = floor_least s.shape kept.within in
    omega (arith, a.1, over, least, kept.within.least_reserve)

pub first_room : (s : State) (version : ℕ) (h : Head) (bytes : List ℕ) → IsKept s → AsksVersion s version (length bytes)
    → logged_length version h bytes ≤ s.size → 19 + length bytes ≤ s.shape.reserve
first_room s version h bytes kept asks fits = elim (cases_eq version 2) [
  | inl second ↦ let r = second_room s version (length bytes) kept asks second in omega (arith, r)
  | inr other ↦ let e = first_length_is version h bytes other in omega (arith, e, fits, kept.most)
]

-- a text's length, told of the same bytes
pub told_length : (version : ℕ) (h : Head) (bytes into : List ℕ) (n : ℕ) → 1 ≤ version → version ≤ 2 → into ≡ bytes → n ≡ length (text (logged version h into))
    → n ≡ logged_length version h bytes
told_length version h bytes into n first last same is = is ∙ ap (λ (b : List ℕ). length (text (logged version h b))) same ∙ length-logged version h bytes first last
