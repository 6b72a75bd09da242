-- Laws of sums of blocks: their length, their places, parts, order and what cancels.
use Rattle.std.proofs.Common.{◌≡◌, ℕ, zero, suc, subst, ◌+◌, ◌<◌, ◌≤◌, bit_xor, refl, sym, ap, ap₂, ◌∙◌, arith, List, [], ◌∷◌, length, get_or, take, drop, drop-cons, replicate, map, Bor}
use Rattle.std.specs.Prelude.{All}
use Rattle.std.specs.Int.Bits.{xor_assoc, xor_zero_r}
use Rattle.std.specs.Simd.Lanes.{zip2, chunk}
use Rattle.std.proofs.lemmas.Nat.{xor_comm}
use Rattle.std.proofs.lemmas.List.{take-map, drop-map}
use Rattle.std.proofs.lemmas.Simd.{length-zip2}
use Rattle.cod_field.specs.Field.{product, terms}
use Rattle.cod_kernel.specs.Sums.{added, added_scaled, added_all_scaled, sum_at}

-- ---- of any function, place by place

zip2_at : (f : ℕ → ℕ → ℕ) → f 0 0 ≡ 0 → (xs ys : List ℕ) (m : ℕ) → length xs ≡ length ys → get_or (zip2 f xs ys) m 0 ≡ f (get_or xs m 0) (get_or ys m 0)
zip2_at f zeros [] [] m e = sym zeros
zip2_at f zeros [] (y ∷ ys) m e = absurd (omega arith)
zip2_at f zeros (x ∷ xs) [] m e = absurd (omega arith)
zip2_at f zeros (x ∷ xs) (y ∷ ys) zero e = refl
zip2_at f zeros (x ∷ xs) (y ∷ ys) (suc m) e = zip2_at f zeros xs ys m (omega arith)

zip2-take : (f : ℕ → ℕ → ℕ) (n : ℕ) (xs ys : List ℕ) → take n (zip2 f xs ys) ≡ zip2 f (take n xs) (take n ys)
zip2-take f zero xs ys = refl
zip2-take f (suc n) [] ys = refl
zip2-take f (suc n) (x ∷ xs) [] = refl
zip2-take f (suc n) (x ∷ xs) (y ∷ ys) = ap (λ (rest : List ℕ). f x y ∷ rest) (zip2-take f n xs ys)

zip2-nil : (f : ℕ → ℕ → ℕ) (xs : List ℕ) → zip2 f xs [] ≡ []
zip2-nil f [] = refl
zip2-nil f (x ∷ xs) = refl

zip2-drop : (f : ℕ → ℕ → ℕ) (n : ℕ) (xs ys : List ℕ) → drop n (zip2 f xs ys) ≡ zip2 f (drop n xs) (drop n ys)
zip2-drop f zero xs ys = refl
zip2-drop f (suc n) [] ys = refl
zip2-drop f (suc n) (x ∷ xs) [] = sym (zip2-nil f (drop n xs))
zip2-drop f (suc n) (x ∷ xs) (y ∷ ys) = zip2-drop f n xs ys

-- ---- length

pub length-added : (xs ys : List ℕ) → length xs ≡ length ys → length (added xs ys) ≡ length xs
unfolding added
length-added xs ys e = length-zip2 bit_xor xs ys e

pub length-added_scaled : (c : ℕ) (xs ys : List ℕ) → length xs ≡ length ys → length (added_scaled c xs ys) ≡ length xs
unfolding added_scaled
length-added_scaled c xs ys e = length-zip2 (λ x y. bit_xor x (product c y)) xs ys e

-- ---- a place, 0 past the end

product_of_zero : (c : ℕ) → product c 0 ≡ 0
unfolding product terms
product_of_zero c = refl

pub added_at : (xs ys : List ℕ) (m : ℕ) → length xs ≡ length ys → get_or (added xs ys) m 0 ≡ bit_xor (get_or xs m 0) (get_or ys m 0)
unfolding added
added_at xs ys m e = zip2_at bit_xor refl xs ys m e

pub added_scaled_at : (c : ℕ) (xs ys : List ℕ) (m : ℕ) → length xs ≡ length ys
    → get_or (added_scaled c xs ys) m 0 ≡ bit_xor (get_or xs m 0) (product c (get_or ys m 0))
unfolding added_scaled
added_scaled_at c xs ys m e = zip2_at (λ x y. bit_xor x (product c y)) (product_of_zero c) xs ys m e

-- ---- parts

pub chunk_added : (at n : ℕ) (xs ys : List ℕ) → chunk at n (added xs ys) ≡ zip2 bit_xor (chunk at n xs) (chunk at n ys)
unfolding added
chunk_added at n xs ys = ap (take n) (zip2-drop bit_xor at xs ys) ∙ zip2-take bit_xor n (drop at xs) (drop at ys)

pub chunk_map : (f : ℕ → ℕ) (at n : ℕ) (xs : List ℕ) → chunk at n (map f xs) ≡ map f (chunk at n xs)
chunk_map f at n xs = ap (take n) (drop-map f at xs) ∙ take-map f n (drop at xs)

-- a sum is as long as the shorter block
pub not_above_first : (xs ys : List ℕ) → length (added xs ys) ≤ length xs
unfolding added
not_above_first [] ys = omega arith
not_above_first (x ∷ xs) [] = omega arith
not_above_first (x ∷ xs) (y ∷ ys) = omega (arith, not_above_first xs ys)

pub not_above_second : (xs ys : List ℕ) → length (added xs ys) ≤ length ys
unfolding added
not_above_second [] ys = omega arith
not_above_second (x ∷ xs) [] = omega arith
not_above_second (x ∷ xs) (y ∷ ys) = omega (arith, not_above_second xs ys)

pub added_inside : (xs ys : List ℕ) (m : ℕ) → m < length (added xs ys) → get_or (added xs ys) m 0 ≡ bit_xor (get_or xs m 0) (get_or ys m 0)
unfolding added
added_inside [] ys m h = absurd (omega arith)
added_inside (x ∷ xs) [] m h = absurd (omega arith)
added_inside (x ∷ xs) (y ∷ ys) zero h = refl
added_inside (x ∷ xs) (y ∷ ys) (suc m) h = added_inside xs ys m (omega arith)

-- a block times a scalar that is added
pub added_multiple : (c : ℕ) (xs ys : List ℕ) → added xs (map (product c) ys) ≡ added_scaled c xs ys
unfolding added added_scaled
added_multiple c [] ys = refl
added_multiple c (x ∷ xs) [] = refl
added_multiple c (x ∷ xs) (y ∷ ys) = ap (λ (rest : List ℕ). bit_xor x (product c y) ∷ rest) (added_multiple c xs ys)

-- ---- zero and one

abbrev AreBytes : List ℕ → Type 0
AreBytes xs = All (λ x. x < 256) xs

first_byte : (x : ℕ) (xs : List ℕ) → AreBytes (x ∷ xs) → x < 256
first_byte x xs h = h 0 0 (omega arith)

pub added_zeros : (xs : List ℕ) → added xs (replicate (length xs) 0) ≡ xs
unfolding added
added_zeros [] = refl
added_zeros (x ∷ xs) = ap₂ (λ (a : ℕ) (rest : List ℕ). a ∷ rest) (xor_zero_r x) (added_zeros xs)

-- ---- order, and what cancels

pub added_comm : (xs ys : List ℕ) → added xs ys ≡ added ys xs
unfolding added
added_comm [] [] = refl
added_comm [] (y ∷ ys) = refl
added_comm (x ∷ xs) [] = refl
added_comm (x ∷ xs) (y ∷ ys) = ap₂ (λ (a : ℕ) (rest : List ℕ). a ∷ rest) (xor_comm x y) (added_comm xs ys)

pub added_assoc : (xs ys zs : List ℕ) → added (added xs ys) zs ≡ added xs (added ys zs)
unfolding added
added_assoc [] ys zs = refl
added_assoc (x ∷ xs) [] zs = refl
added_assoc (x ∷ xs) (y ∷ ys) [] = refl
added_assoc (x ∷ xs) (y ∷ ys) (z ∷ zs) = ap₂ (λ (a : ℕ) (rest : List ℕ). a ∷ rest) (xor_assoc x y z) (added_assoc xs ys zs)

-- ---- bytes

-- ---- many sources

abbrev pub AllLong : ℕ → List (List ℕ) → Type 0
AllLong n sources = All (λ ys. length ys ≡ n) sources

first_long : (n : ℕ) (ys : List ℕ) (sources : List (List ℕ)) → AllLong n (ys ∷ sources) → length ys ≡ n
first_long n ys sources h = h 0 [] (omega arith)

later_long : (n : ℕ) (ys : List ℕ) (sources : List (List ℕ)) → AllLong n (ys ∷ sources) → AllLong n sources
later_long n ys sources h k d lt = h (suc k) d (omega arith)

pub added_all_scaled_at : (xs scalars : List ℕ) (sources : List (List ℕ)) (m : ℕ) → AllLong (length xs) sources
    → get_or (added_all_scaled xs scalars sources) m 0 ≡ bit_xor (get_or xs m 0) (sum_at scalars sources m)
unfolding added_all_scaled sum_at
added_all_scaled_at xs [] sources m h = sym (xor_zero_r (get_or xs m 0))
added_all_scaled_at xs (c ∷ scalars) [] m h = sym (xor_zero_r (get_or xs m 0))
added_all_scaled_at xs (c ∷ scalars) (ys ∷ sources) m h =
    let same : length xs ≡ length ys = sym (first_long (length xs) ys sources h) in
    let long : length (added_scaled c xs ys) ≡ length xs = length-added_scaled c xs ys same in
    added_all_scaled_at (added_scaled c xs ys) scalars sources m (subst (λ n. AllLong n sources) (sym long) (later_long (length xs) ys sources h))
    ∙ ap (λ x. bit_xor x (sum_at scalars sources m)) (added_scaled_at c xs ys m same)
    ∙ xor_assoc (get_or xs m 0) (product c (get_or ys m 0)) (sum_at scalars sources m)

pub all_scaled_none : (xs scalars : List ℕ) (sources : List (List ℕ)) → length scalars ≡ 0 → added_all_scaled xs scalars sources ≡ xs
unfolding added_all_scaled
all_scaled_none xs [] sources e = refl
all_scaled_none xs (c ∷ scalars) sources e = absurd (omega arith)

-- source j is the next to be added, where those before it were
pub all_scaled_next : (xs scalars : List ℕ) (sources : List (Bor (List ℕ))) (j k : ℕ) (d : Bor (List ℕ)) → k ≡ j + 1 → j < length scalars → j < length sources
    → added_all_scaled xs (drop j scalars) (map (λ source. source.now) (drop j sources))
    ≡ added_all_scaled (added_scaled (get_or scalars j 0) xs (get_or sources j d).now) (drop k scalars) (map (λ source. source.now) (drop k sources))
unfolding added_all_scaled
all_scaled_next xs scalars sources j k d e h g =
    let next : k ≡ suc j = omega arith in
    ap₂ (λ cs (bs : List (Bor (List ℕ))). added_all_scaled xs cs (map (λ source. source.now) bs)) (drop-cons scalars j 0 h) (drop-cons sources j d g)
    ∙ ap (λ n. added_all_scaled (added_scaled (get_or scalars j 0) xs (get_or sources j d).now) (drop n scalars) (map (λ source. source.now) (drop n sources))) (sym next)
