-- The columns of a segment are encoded.
use Rattle.std.proofs.Common.{◌≡◌, ℕ, zero, suc, ◌+◌, ◌-◌, ◌*◌, ◌<◌, ◌≤◌, List, [], ◌∷◌, ◌++◌, All, Bor, length, map, take, drop, get_or, set, bit_xor, replicate, refl, sym, ap, ap₂, ◌∙◌, arith}
use Rattle.std.specs.List.{range_with_len}
use Rattle.std.specs.Prelude.{slice_range}
use Rattle.std.specs.Int.Bits.{xor_zero_l}
use Rattle.std.proofs.lemmas.List.{get_or-take, get_or-drop, length-take, length-drop, take_more_set, map-append, get_or-replicate, length-replicate}
use Rattle.std.proofs.Math.Nat.{mul-le-mul_right, suc-mul}
use Rattle.cod_field.specs.Field.{product}
use Rattle.cod_kernel.specs.Sums.{added_all_scaled, sum_at}
use Rattle.cod_kernel.proofs.SumLaws.{AllLong, added_all_scaled_at}
use Rattle.cod_code.specs.Columns.{combination, row_at}
use Rattle.cod_code.specs.Segments.{across, column, column_byte}
use Rattle.cod_code.proofs.Rows.{range_more}
use Rattle.cod_code.proofs.Segments.{across_length, column_is}
use Rattle.cod_code.proofs.Sums.{row_codes}

-- data block j
abbrev pub part : (block : ℕ) (segment : List ℕ) (j : ℕ) → List ℕ
part block segment j = slice_range segment (j * block) (j * block + block)

-- one block more
pub parts_more : (xs : List (Bor (List ℕ))) (i : ℕ) (y : Bor (List ℕ)) (f : ℕ → List ℕ) → i < length xs → y.now ≡ f i
    → map (λ (s : Bor (List ℕ)). s.now) (take i xs) ≡ map f (range_with_len 0 i) → map (λ (s : Bor (List ℕ)). s.now) (take (i + 1) (set xs i y)) ≡ map f (range_with_len 0 (i + 1))
parts_more xs i y f within is all =
    let now = λ (s : Bor (List ℕ)). s.now in
    ap (map now) (take_more_set xs i y within) ∙ map-append now (take i xs) (y ∷ []) ∙ ap₂ (λ (a b : List (List ℕ)). a ++ b) all (ap (λ (z : List ℕ). z ∷ []) is)
    ∙ sym (ap (map f) (range_more i) ∙ map-append f (range_with_len 0 i) (i ∷ []))

-- a sum of lists at a place is the sum of their bytes there
sum_is_combination : (scalars : List ℕ) (sources : List (List ℕ)) (x : ℕ) → sum_at scalars sources x ≡ combination scalars (map (λ (ys : List ℕ). get_or ys x 0) sources)
unfolding sum_at combination
sum_is_combination [] sources x = refl
sum_is_combination (c ∷ scalars) [] x = refl
sum_is_combination (c ∷ scalars) (ys ∷ sources) x = ap (bit_xor (product c (get_or ys x 0))) (sum_is_combination scalars sources x)

map_over : (f : ℕ → List ℕ) (g : ℕ → ℕ) (x : ℕ) (ns : List ℕ) → ((j : ℕ) → get_or (f j) x 0 ≡ g j) → map (λ (ys : List ℕ). get_or ys x 0) (map f ns) ≡ map g ns
map_over f g x [] same = refl
map_over f g x (n ∷ ns) same = ap₂ (λ (a : ℕ) (b : List ℕ). a ∷ b) (same n) (map_over f g x ns same)

take_nil : (n : ℕ) → take {A = ℕ} n [] ≡ []
take_nil zero = refl
take_nil (suc n) = refl

-- a sum of products takes no more of one list than the other has
front : (xs ys : List ℕ) → combination (take (length ys) xs) ys ≡ combination xs ys
unfolding combination
front [] ys = ap (λ (q : List ℕ). combination q ys) (take_nil (length ys))
front (x ∷ xs) [] = refl
front (x ∷ xs) (y ∷ ys) = ap (bit_xor (product x y)) (front xs ys)

pub part_at : (xs : List ℕ) (from block place : ℕ) → place < block → get_or (slice_range xs from (from + block)) place 0 ≡ get_or xs (from + place) 0
part_at xs from block place h =
    let lt : place < from + block - from = omega arith in
    get_or-take (from + block - from) (drop from xs) place 0 lt ∙ get_or-drop from xs place 0

part_length : (xs : List ℕ) (k j block : ℕ) → k * block ≤ length xs → j < k → length (slice_range xs (j * block) (j * block + block)) ≡ block
part_length xs k j block long h =
    let from = j * block in
    let fits : suc j * block ≤ k * block = mul-le-mul_right block h in
    let room : from + block ≤ length xs = omega (arith, suc-mul j block) in
    omega (arith, length-take (from + block - from) (drop from xs), length-drop from xs)

pub parts_long : (xs : List ℕ) (k block : ℕ) → k * block ≤ length xs → (a n : ℕ) → a + n ≤ k → AllLong block (map (part block xs) (range_with_len a n))
parts_long xs k block long a zero le m d lt = absurd (omega arith)
parts_long xs k block long a (suc n) le zero d lt = part_length xs k a block long (omega arith)
parts_long xs k block long a (suc n) le (suc m) d lt = parts_long xs k block long (a + 1) n (omega arith) m d (omega arith)

-- lists behind references are as long as they are
pub behind_long : (n : ℕ) (sources : List (Bor (List ℕ))) → AllLong n (map (λ (s : Bor (List ℕ)). s.now) sources) → All (λ (s : Bor (List ℕ)). length s.now ≡ n) sources
behind_long n [] h m d lt = absurd (omega arith)
behind_long n (s ∷ sources) h zero d lt = h zero [] (omega arith)
behind_long n (s ∷ sources) h (suc m) d lt = behind_long n sources (λ k e l. h (suc k) e (omega arith)) m d (omega arith)

-- each of the sources is as long as a block
pub sources_long : (xs : List ℕ) (k block : ℕ) (sources : List (Bor (List ℕ))) → k * block ≤ length xs
    → map (λ (s : Bor (List ℕ)). s.now) sources ≡ map (part block xs) (range_with_len 0 k) → All (λ (s : Bor (List ℕ)). length s.now ≡ block) sources
sources_long xs k block sources long are = behind_long block sources (rw are (parts_long xs k block long 0 k (omega arith)))

-- the sum of the data blocks by a column's row is the column
pub encoded : (k block i : ℕ) (segment into : List ℕ) (row : List ℕ) (sources : List (List ℕ)) → k ≤ 16 → length into ≡ block → row ≡ row_at k i
    → length segment ≡ k * block → sources ≡ map (part block segment) (range_with_len 0 k)
    → into ≡ added_all_scaled (replicate block 0) (take k row) sources → into ≡ column k block i segment
unfolding column_byte across
encoded k block i segment into row sources le size row_is whole sources_are is = let enough : k * block ≤ length segment = omega arith in column_is k block i segment into size (λ x lt.
    let zeros = replicate block 0 in
    let ys = across k block segment x in
    ap (λ (l : List ℕ). get_or l x 0) is
    ∙ added_all_scaled_at zeros (take k row) sources x (rw (length-replicate {A = ℕ} block 0, sources_are) (parts_long segment k block enough 0 k (omega arith)))
    ∙ ap (λ (z : ℕ). bit_xor z (sum_at (take k row) sources x)) (get_or-replicate block x 0 0 lt)
    ∙ xor_zero_l (sum_at (take k row) sources x)
    ∙ sum_is_combination (take k row) sources x
    ∙ ap (λ (s : List (List ℕ)). combination (take k row) (map (λ (ys : List ℕ). get_or ys x 0) s)) sources_are
    ∙ ap (combination (take k row)) (map_over (part block segment) (λ j. get_or segment (j * block + x) 0) x (range_with_len 0 k) (λ j. part_at segment (j * block) block x lt))
    ∙ ap (λ (m : ℕ). combination (take m row) ys) (sym (across_length k block segment x))
    ∙ front row ys
    ∙ ap (λ (r : List ℕ). combination r ys) row_is
    ∙ row_codes k i ys le (across_length k block segment x))
