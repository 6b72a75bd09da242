-- The sum of a row of coefficients and bytes, place after place, as a loop makes it.
use Rattle.std.proofs.Common.{◌≡◌, ℕ, ◌+◌, ◌<◌, ◌≤◌, zero, suc, bit_xor, refl, sym, ap, ap₂, ◌∙◌, arith, List, [], ◌∷◌, ◌++◌, map, length, get_or, take, true, false, if◌then◌else◌, nat_lt}
use Rattle.std.specs.Int.Bits.{xor_assoc, xor_zero_r}
use Rattle.std.specs.List.{range_with_len}
use Rattle.std.proofs.lemmas.Nat.{xor_lt}
use Rattle.std.proofs.lemmas.List.{length-take-le, ext_get_or, get_or-take}
use Rattle.std.proofs.lemmas.List.FromFn.{length-map-range_with_len, get_or-map-range_with_len, map-range_with_len_more}
use Rattle.std.proofs.lemmas.Bool.Decides.{nat_tests}
use Rattle.cod_field.specs.Field.{product}
use Rattle.cod_field.proofs.Laws.{product_lt, product_zero_left}
use Rattle.cod_code.specs.Columns.{gamma, weight, columns_of, has_column, row_at, decode_row_at, combination, sum_below}
use Rattle.cod_code.specs.Decoding.{decoded}
use Rattle.cod_code.specs.Encoding.{coded}

combination_push : (xs ys : List ℕ) (a b : ℕ) → length xs ≡ length ys → combination (xs ++ a ∷ []) (ys ++ b ∷ []) ≡ bit_xor (combination xs ys) (product a b)
unfolding combination
combination_push [] [] a b e = xor_zero_r (product a b)
combination_push [] (y ∷ ys) a b e = absurd (omega arith)
combination_push (x ∷ xs) [] a b e = absurd (omega arith)
combination_push (x ∷ xs) (y ∷ ys) a b e =
    let e1 : length xs ≡ length ys = omega arith in
    ap (bit_xor (product x y)) (combination_push xs ys a b e1) ∙ sym (xor_assoc (product x y) (combination xs ys) (product a b))

pub sum_below_none : (c b : ℕ → ℕ) → sum_below c b 0 ≡ 0
unfolding sum_below combination
sum_below_none c b = refl

pub sum_below_more : (c b : ℕ → ℕ) (j : ℕ) → sum_below c b (j + 1) ≡ bit_xor (sum_below c b j) (product (c j) (b j))
unfolding sum_below
sum_below_more c b j =
    let xs = map c (range_with_len 0 j) in
    let ys = map b (range_with_len 0 j) in
    let at : 0 + j ≡ j = omega arith in
    let e : length xs ≡ length ys = length-map-range_with_len c 0 j ∙ sym (length-map-range_with_len b 0 j) in
    ap₂ combination (map-range_with_len_more c 0 j j at) (map-range_with_len_more b 0 j j at)
    ∙ combination_push xs ys (c j) (b j) e

-- a place with the coefficient 0 adds nothing
pub sum_below_skip : (c b : ℕ → ℕ) (j : ℕ) → c j ≡ 0 → sum_below c b (j + 1) ≡ sum_below c b j
sum_below_skip c b j e =
    sum_below_more c b j
    ∙ ap (λ q. bit_xor (sum_below c b j) (product q (b j))) e
    ∙ ap (bit_xor (sum_below c b j)) (product_zero_left (b j))
    ∙ xor_zero_r (sum_below c b j)

pub sum_below_lt : (c b : ℕ → ℕ) (count : ℕ) → ((j : ℕ) → c j < 256) → sum_below c b count < 256
sum_below_lt c b zero h = rw (sum_below_none c b) (omega arith)
sum_below_lt c b (suc count) h =
    let at : suc count ≡ count + 1 = omega arith in
    rw (at, sum_below_more c b count) (xor_lt 8 (sum_below c b count) (product (c count) (b count)) (sum_below_lt c b count h) (product_lt (c count) (b count) (h count)))

-- the byte of column i, by the row's coefficients
pub coded_by_sum : (k i : ℕ) (b : ℕ → ℕ) → coded k i (map b (range_with_len 0 k)) ≡ sum_below (gamma k i) b k
unfolding coded sum_below
coded_by_sum k i b = refl

-- the coefficient at a place of `decode_row_at`
pub decode_weight : (sources wanted j : ℕ) → ℕ
decode_weight sources wanted j = if has_column sources j then weight (columns_of sources) j wanted else 0

-- the wanted byte, by the row's coefficients
pub decoded_by_sum : (sources wanted : ℕ) (b : ℕ → ℕ) → decoded sources wanted b ≡ sum_below (decode_weight sources wanted) b 16
unfolding decoded sum_below decode_row_at decode_weight
decoded_by_sum sources wanted b = refl

-- ---- the places of the rows that the code answers

pub row_place : (k i j : ℕ) → j < k → k ≤ 16 → get_or (row_at k i) j 0 ≡ gamma k i j
unfolding row_at
row_place k i j h le =
    let lt : j < 16 = omega arith in
    get_or-map-range_with_len (λ m. if nat_lt m k then gamma k i m else 0) 0 16 j j 0 lt (omega arith)
    ∙ grind (arith, nat_tests)

pub decode_row_place : (sources wanted j : ℕ) → j < 16 → get_or (decode_row_at sources wanted) j 0 ≡ decode_weight sources wanted j
unfolding decode_row_at decode_weight
decode_row_place sources wanted j h =
    get_or-map-range_with_len (λ m. if has_column sources m then weight (columns_of sources) m wanted else 0) 0 16 j j 0 h (omega arith)

pub decode_weight_elsewhere : (sources wanted j : ℕ) → has_column sources j ≡ false → decode_weight sources wanted j ≡ 0
unfolding decode_weight
decode_weight_elsewhere sources wanted j e = ap (λ t. if t then weight (columns_of sources) j wanted else 0) e

pub decode_weight_source : (sources wanted j : ℕ) → has_column sources j ≡ true → decode_weight sources wanted j ≡ weight (columns_of sources) j wanted
unfolding decode_weight
decode_weight_source sources wanted j e = ap (λ t. if t then weight (columns_of sources) j wanted else 0) e

row_length : (k i : ℕ) → length (row_at k i) ≡ 16
unfolding row_at
row_length k i = length-map-range_with_len (λ m. if nat_lt m k then gamma k i m else 0) 0 16

-- the row of column i, up to k places, is its coefficients
pub row_front : (k i : ℕ) → k ≤ 16 → take k (row_at k i) ≡ map (gamma k i) (range_with_len 0 k)
row_front k i le =
    let size : length (row_at k i) ≡ 16 = row_length k i in
    let room : k ≤ length (row_at k i) = omega arith in
    let taken : length (take k (row_at k i)) ≡ k = length-take-le k (row_at k i) room in
    ext_get_or 0 (take k (row_at k i)) (map (gamma k i) (range_with_len 0 k)) (taken ∙ sym (length-map-range_with_len (gamma k i) 0 k))
    (λ j h. let lt : j < k = omega arith in get_or-take k (row_at k i) j 0 lt ∙ row_place k i j lt le ∙ sym (get_or-map-range_with_len (gamma k i) 0 k j j 0 lt (omega arith)))

take_nil : (n : ℕ) → take {A = ℕ} n [] ≡ []
take_nil zero = refl
take_nil (suc n) = refl

-- only as many places count as there are bytes
pub combination_take_left : (xs ys : List ℕ) → combination xs ys ≡ combination (take (length ys) xs) ys
unfolding combination
combination_take_left [] ys = ap (λ (q : List ℕ). combination q ys) (sym (take_nil (length ys)))
combination_take_left (x ∷ xs) [] = refl
combination_take_left (x ∷ xs) (y ∷ ys) = ap (bit_xor (product x y)) (combination_take_left xs ys)

pub row_codes : (k i : ℕ) (bytes : List ℕ) → k ≤ 16 → length bytes ≡ k → combination (row_at k i) bytes ≡ coded k i bytes
unfolding coded
row_codes k i bytes le size =
    combination_take_left (row_at k i) bytes
    ∙ ap (λ m. combination (take m (row_at k i)) bytes) size
    ∙ ap (λ (r : List ℕ). combination r bytes) (row_front k i le)
