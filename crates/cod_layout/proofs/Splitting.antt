-- The parts of a range, block after block.
use Rattle.std.proofs.Common.{◌≡◌, ℕ, zero, suc, ◌+◌, ◌-◌, ◌*◌, ◌<◌, ◌≤◌, max, min, nat_lt, length, map, List, [], ◌∷◌, ◌++◌, refl, sym, ap, ◌∙◌, arith, inl, inr, add-zero, append-nil}
use Rattle.std.proofs.lemmas.Bool.{cases_lt, cond-true, cond-false}
use Rattle.std.proofs.lemmas.Bool.Decides.{nat_tests}
use Rattle.std.proofs.lemmas.Nat.{mul-le}
use Rattle.std.proofs.Math.Nat.{add-mul}
use Rattle.std.proofs.lemmas.List.Elements.{All-cons}
use Rattle.std.proofs.lemmas.List.Kept.{AllPairs-cons}
use Rattle.std.proofs.lemmas.List.Sums.{length-filter, count_by-le-length}
use Rattle.std.proofs.lemmas.List.FromFn.{length-map-range_with_len, filter_of_map_range_with_len_more}
use Rattle.std.specs.List.{range_with_len, flat_map, All, AllPairs}
use Rattle.cod_layout.specs.declared.parts.Part.{Part}
use Rattle.cod_layout.specs.Parts.{length_in, part_in, parts_among, parts_of, place_of, IsInside, IsSplit}

pub next_base : (block j : ℕ) → (j + 1) * block ≡ j * block + block
next_base block j = omega (arith, add-mul j 1 block)

pub among_some : (block off len j n : ℕ) → 0 < length_in block off len j
    → parts_among block off len j (suc n) ≡ part_in block off len j ∷ parts_among block off len (j + 1) n
among_some block off len j n some =
    cond-true (nat_lt 0 (length_in block off len j)) (part_in block off len j ∷ parts_among block off len (j + 1) n) (parts_among block off len (j + 1) n) (grind (arith, nat_tests))

pub among_none : (block off len j n : ℕ) → length_in block off len j ≤ 0
    → parts_among block off len j (suc n) ≡ parts_among block off len (j + 1) n
among_none block off len j n none =
    cond-false (nat_lt 0 (length_in block off len j)) (part_in block off len j ∷ parts_among block off len (j + 1) n) (parts_among block off len (j + 1) n) (grind (arith, nat_tests))

pub among_one_more : (block off len n : ℕ) → 0 < length_in block off len n
    → parts_among block off len 0 (n + 1) ≡ parts_among block off len 0 n ++ part_in block off len n ∷ []
among_one_more block off len n some =
    filter_of_map_range_with_len_more (λ (part : Part). nat_lt 0 part.len) (part_in block off len) 0 n n (omega arith)
    ∙ ap (λ (l : List Part). parts_among block off len 0 n ++ l) (cond-true (nat_lt 0 (length_in block off len n)) (part_in block off len n ∷ []) [] (grind (arith, nat_tests)))

pub among_no_more : (block off len n : ℕ) → length_in block off len n ≤ 0 → parts_among block off len 0 (n + 1) ≡ parts_among block off len 0 n
among_no_more block off len n none =
    filter_of_map_range_with_len_more (λ (part : Part). nat_lt 0 part.len) (part_in block off len) 0 n n (omega arith)
    ∙ ap (λ (l : List Part). parts_among block off len 0 n ++ l) (cond-false (nat_lt 0 (length_in block off len n)) (part_in block off len n ∷ []) [] (grind (arith, nat_tests)))
    ∙ append-nil (parts_among block off len 0 n)

-- a turn of the loop, where the range meets the block
pub grown_by_part : (block off len j size from to : ℕ) (parts : List Part) → size ≡ block → from ≡ max off (j * size) → to ≡ min (off + len) (j * size + size) → from < to
    → parts ≡ parts_among block off len 0 j
    → parts ++ (record { block = j; off = from - j * size; len = to - from }) ∷ [] ≡ parts_among block off len 0 (j + 1)
grown_by_part block off len j size from to parts s f t some p =
    let f' : from ≡ max off (j * block) = f ∙ ap (λ (n : ℕ). max off (j * n)) s in
    let t' : to ≡ min (off + len) (j * block + block) = t ∙ ap (λ (n : ℕ). min (off + len) (j * n + n)) s in
    let part : ℕ → ℕ → ℕ → Part = λ n x y. record { block = j; off = x - j * n; len = y - x } in
    ap (λ (l : List Part). l ++ part size from to ∷ []) p
    ∙ ap (λ (n : ℕ). parts_among block off len 0 j ++ part n from to ∷ []) s
    ∙ ap (λ (x : ℕ). parts_among block off len 0 j ++ part block x to ∷ []) f'
    ∙ ap (λ (y : ℕ). parts_among block off len 0 j ++ part block (max off (j * block)) y ∷ []) t'
    ∙ sym (among_one_more block off len j (omega (arith, some, f', t')))

-- and where it doesn't
pub grown_by_none : (block off len j size from to : ℕ) (parts : List Part) → size ≡ block → from ≡ max off (j * size) → to ≡ min (off + len) (j * size + size) → to ≤ from
    → parts ≡ parts_among block off len 0 j → parts ≡ parts_among block off len 0 (j + 1)
grown_by_none block off len j size from to parts s f t none p =
    let f' : from ≡ max off (j * block) = f ∙ ap (λ (n : ℕ). max off (j * n)) s in
    let t' : to ≡ min (off + len) (j * block + block) = t ∙ ap (λ (n : ℕ). min (off + len) (j * n + n)) s in
    p ∙ sym (among_no_more block off len j (omega (arith, none, f', t')))

-- there are at most as many parts as blocks
pub length-parts : (block off len j n : ℕ) → length (parts_among block off len j n) ≤ n
length-parts block off len j n =
    let blocks = map (part_in block off len) (range_with_len j n) in
    let count = length-filter (λ (part : Part). nat_lt 0 part.len) blocks in
    let most = count_by-le-length (λ (part : Part). nat_lt 0 part.len) blocks in
    omega (arith, count, most, length-map-range_with_len (part_in block off len) j n)

-- a part lies in its block, which is none before the j-th
abbrev pub IsBehind : (k block j : ℕ) → Part → Type 0
IsBehind k block j part = IsInside k block part × (j ≤ part.block)

pub part_is_inside : (k block off len j : ℕ) → j < k → 0 < length_in block off len j → IsInside k block (part_in block off len j)
part_is_inside k block off len j below some = record { some = omega arith; among = below; within = omega arith }

pub parts_are_behind : (k block off len j n : ℕ) → j + n ≤ k → All (IsBehind k block j) (parts_among block off len j n)
parts_are_behind k block off len j zero fits = λ i d lt. absurd (omega arith)
parts_are_behind k block off len j (suc n) fits =
    let rest = parts_are_behind k block off len (j + 1) n (omega arith) in
    let later : All (IsBehind k block j) (parts_among block off len (j + 1) n) = λ i d lt. let at = rest i d lt in (at.0, omega (arith, at.1)) in
    elim (cases_lt 0 (length_in block off len j)) [
      | inl some ↦ rw (among_some block off len j n some)
          (All-cons (IsBehind k block j) (part_in block off len j) _ (part_is_inside k block off len j (omega arith) some, omega arith) later)
      | inr none ↦ rw (among_none block off len j n none) later
    ]

pub parts_rise : (block off len j n : ℕ) → AllPairs (λ (part later : Part). part.block < later.block) (parts_among block off len j n)
parts_rise block off len j zero = λ i m d lt within. absurd (omega arith)
parts_rise block off len j (suc n) =
    let rest = parts_rise block off len (j + 1) n in
    let behind = parts_are_behind (j + 1 + n) block off len (j + 1) n (omega arith) in
    elim (cases_lt 0 (length_in block off len j)) [
      | inl some ↦ rw (among_some block off len j n some)
          (AllPairs-cons (λ (part later : Part). part.block < later.block) (part_in block off len j) _ (λ i d lt. omega (arith, (behind i d lt).1)) rest)
      | inr none ↦ rw (among_none block off len j n none) rest
    ]

same_where_some : {A : Type 0} (f : ℕ → ℕ → List A) → ((a : ℕ) → f a 0 ≡ []) → (a b n : ℕ) → (0 < n → a ≡ b) → f a n ≡ f b n
same_where_some f none a b zero same = none a ∙ sym (none b)
same_where_some f none a b (suc n) same = ap (λ (x : ℕ). f x (suc n)) (same (omega arith))

-- the places of a range up to d, where its places from c to c + b are taken off first
total_some : (off len c b d : ℕ) → c + b ≤ d → 0 < min (off + len) (c + b) - max off c
    → min (off + len) d - max off c ≡ (min (off + len) (c + b) - max off c) + (min (off + len) d - max off (c + b))
total_some off len c b d top some = omega arith

begin_some : (off len c b d : ℕ) → 0 < min (off + len) (c + b) - max off c → 0 < min (off + len) d - max off (c + b)
    → max off (c + b) ≡ max off c + (min (off + len) (c + b) - max off c)
begin_some off len c b d some more = omega arith

total_none : (off len c b d : ℕ) → c + b ≤ d → min (off + len) (c + b) - max off c ≤ 0
    → min (off + len) d - max off c ≡ min (off + len) d - max off (c + b)
total_none off len c b d top none = omega arith

begin_none : (off len c b d : ℕ) → min (off + len) (c + b) - max off c ≤ 0 → 0 < min (off + len) d - max off (c + b) → max off (c + b) ≡ max off c
begin_none off len c b d none more = omega arith

-- what is given for each part, end to end, is what is given for the range, as far as it lies in these blocks
pub flat_map-parts : {A : Type 0} (f : ℕ → ℕ → List A) → ((a : ℕ) → f a 0 ≡ []) → ((a n m : ℕ) → f a (n + m) ≡ f a n ++ f (a + n) m)
    → (block off len j n : ℕ)
    → flat_map (λ (part : Part). f (place_of block part) part.len) (parts_among block off len j n)
    ≡ f (max off (j * block)) (min (off + len) ((j + n) * block) - max off (j * block))
flat_map-parts f none more block off len j zero =
    let same : (j + 0) * block ≡ j * block = ap (λ (i : ℕ). i * block) (add-zero j) in
    let e : min (off + len) ((j + 0) * block) - max off (j * block) ≡ 0 = omega (arith, same) in
    sym (ap (f (max off (j * block))) e ∙ none (max off (j * block)))
flat_map-parts f none more block off len j (suc n) =
    let c = j * block in
    let d = (j + suc n) * block in
    let g = λ (part : Part). f (place_of block part) part.len in
    let rest = parts_among block off len (j + 1) n in
    let own = length_in block off len j in
    let left = min (off + len) d - max off (c + block) in
    let base = next_base block j in
    let top : c + block ≤ d = omega (arith, base, mul-le (j + 1) block (j + suc n) block (omega arith) (omega arith)) in
    let count : j + 1 + n ≡ j + suc n = omega arith in
    let ends : (j + 1 + n) * block ≡ d = ap (λ (i : ℕ). i * block) count in
    let ih : flat_map g rest ≡ f (max off (c + block)) left =
    flat_map-parts f none more block off len (j + 1) n
    ∙ ap (λ (x : ℕ). f (max off x) (min (off + len) ((j + 1 + n) * block) - max off x)) base
    ∙ ap (λ (x : ℕ). f (max off (c + block)) (min (off + len) x - max off (c + block))) ends in
    elim (cases_lt 0 own) [
      | inl some ↦
          let place : place_of block (part_in block off len j) ≡ max off c = omega arith in
          ap (flat_map g) (among_some block off len j n some)
          ∙ ap (λ (x : ℕ). f x own ++ flat_map g rest) place
          ∙ ap (λ (l : List _). f (max off c) own ++ l) (ih ∙ same_where_some f none (max off (c + block)) (max off c + own) left (begin_some off len c block d some))
          ∙ sym (more (max off c) own left)
          ∙ ap (f (max off c)) (sym (total_some off len c block d top some))
      | inr empty ↦
          ap (flat_map g) (among_none block off len j n empty)
          ∙ ih
          ∙ same_where_some f none (max off (c + block)) (max off c) left (begin_none off len c block d empty)
          ∙ ap (f (max off c)) (sym (total_none off len c block d top empty))
    ]

-- and of a range that lies in the segment it is what is given for the range
pub flat_map-parts_of : {A : Type 0} (f : ℕ → ℕ → List A) → ((a : ℕ) → f a 0 ≡ []) → ((a n m : ℕ) → f a (n + m) ≡ f a n ++ f (a + n) m)
    → (k block off len : ℕ) → off + len ≤ k * block
    → flat_map (λ (part : Part). f (place_of block part) part.len) (parts_of k block off len) ≡ f off len
flat_map-parts_of f none more k block off len fits =
    let begin : max off (0 * block) ≡ off = omega arith in
    let size : min (off + len) ((0 + k) * block) - off ≡ len = omega (arith, fits) in
    flat_map-parts f none more block off len 0 k
    ∙ ap (λ (x : ℕ). f x (min (off + len) ((0 + k) * block) - x)) begin
    ∙ ap (f off) size

range-add : (a n m : ℕ) → range_with_len a (n + m) ≡ range_with_len a n ++ range_with_len (a + n) m
range-add a zero m =
    let none : 0 + m ≡ m = omega arith in
    ap (range_with_len a) none ∙ ap (λ (x : ℕ). range_with_len x m) (sym (add-zero a))
range-add a (suc n) m =
    let more : suc n + m ≡ suc (n + m) = omega arith in
    let e : a + 1 + n ≡ a + suc n = omega arith in
    ap (range_with_len a) more
    ∙ ap (λ (l : List ℕ). a ∷ l) (range-add (a + 1) n m ∙ ap (λ (x : ℕ). range_with_len (a + 1) n ++ range_with_len x m) e)

pub parts_split : (k block off len : ℕ) → off + len ≤ k * block → IsSplit k block off len (parts_of k block off len)
parts_split k block off len fits = record {
  inside = λ i d lt. (parts_are_behind k block off len 0 k (omega arith) i d lt).0;
  rising = parts_rise block off len 0 k;
  covers = flat_map-parts_of range_with_len (λ a. refl) range-add k block off len fits;
}
