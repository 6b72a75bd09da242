-- Products of bytes by look-ups of their halves.
use Rattle.std.proofs.Common.{◌≡◌, ℕ, ◌+◌, ◌≤◌, ◌*◌, ◌/◌, ◌%◌, ◌^◌, ◌<◌, List, [], ◌∷◌, ◌++◌, take, drop, map, length, get_or, replicate, bit_and, bit_xor, refl, sym, ap, ap₂, ◌∙◌, arith, w8, Fits}
use Rattle.std.specs.List.{range_with_len}
use Rattle.std.specs.Simd.Lanes.{zip2, chunk, Each1}
use Rattle.std.proofs.lemmas.List.{get_or-map, length-map, ext_get_or, get_or_append_left, take-take}
use Rattle.std.proofs.lemmas.List.FromFn.{get_or-map-range_with_len, get_or-range_with_len}
use Rattle.std.proofs.lemmas.Nat.{and_le_r}
use Rattle.std.proofs.lemmas.Simd.{Each1-all, Each1-weaker, Each1-zip2, Each2-splat, Each1-get_or, below_from_Fits, length-zip2, swz_l, SwzOk, SwzOk-from_below, length-swz_l, get_or-swz_l_below}
use Rattle.std.proofs.lemmas.Simd.{zip2-map, zip2_splat}
use Rattle.cod_field.specs.Field.{product, terms, twice}
use Rattle.cod_field.proofs.Laws.{product_add, product_assoc, product_lt}
use Rattle.cod_kernel.specs.Lookups.{half_products, row, two_times}
use Rattle.cod_kernel.specs.declared.products.TheConstants.{HALVES}

abbrev pub down : ℕ → ℕ → ℕ
down a b = a / 2 ^ b

abbrev pub IsVector : ℕ → List ℕ → Type 0
IsVector n v = (length v ≡ n) × Each1 (Fits w8) v

-- ---- the positions that are looked up, in a vector of b groups of 16

pub low_ok : (b n : ℕ) → n ≡ b * 16 → length (replicate {A = ℕ} n 15) ≡ n → (v : List ℕ) → IsVector n v → SwzOk w8 16 n 0 (zip2 bit_and v (replicate n 15))
low_ok b n e long v fits =
    let small = Each1-all (λ a. bit_and a 15 < 16) (λ a. omega (arith, and_le_r a 15)) v in
    SwzOk-from_below w8 16 b n 0 (zip2 bit_and v (replicate n 15)) e (omega (arith, long, length-zip2 bit_and v (replicate n 15) (omega (arith, long, fits.0))))
    (Each1-zip2 bit_and (λ j. j < 16) v (replicate n 15) (Each2-splat (λ a b. bit_and a b < 16) v n 15 small))

pub high_ok : (b n : ℕ) → n ≡ b * 16 → length (replicate {A = ℕ} n 4) ≡ n → (v : List ℕ) → IsVector n v → SwzOk w8 16 n 0 (zip2 down v (replicate n 4))
high_ok b n e long v fits =
    let small = Each1-weaker (λ a. a < 256) (λ a. a / 16 < 16) (λ a h. omega arith) v (below_from_Fits w8 v fits.1) in
    SwzOk-from_below w8 16 b n 0 (zip2 down v (replicate n 4)) e (omega (arith, long, length-zip2 down v (replicate n 4) (omega (arith, long, fits.0))))
    (Each1-zip2 down (λ j. j < 16) v (replicate n 4) (Each2-splat (λ a b. down a b < 16) v n 4 small))

-- ---- what is found there

-- each group of 16 lanes holds the products of c with the places in the group
abbrev pub HasProducts : (c n : ℕ) → List ℕ → Type 0
HasProducts c n table = (place : ℕ) → place < n → get_or table place 0 ≡ product c (place % 16)

pub narrow_products : (c : ℕ) → HasProducts c 16 (half_products c)
unfolding half_products
narrow_products c place h =
    let same : place ≡ place % 16 = omega arith in
    get_or-map-range_with_len (product c) 0 16 place place 0 h (omega arith) ∙ ap (product c) same

pub wide_products : (c : ℕ) → HasProducts c 32 (two_times (half_products c))
unfolding two_times
wide_products c place h =
    let within : place % 16 < 16 = omega arith in
    let same : place % 16 % 16 ≡ place % 16 = omega arith in
    get_or-map-range_with_len (λ p. get_or (half_products c) (p % 16) 0) 0 32 place place 0 h (omega arith)
    ∙ narrow_products c (place % 16) within ∙ ap (product c) same

looked_up : (b n c : ℕ) (table : List ℕ) (g : ℕ → ℕ) (v js : List ℕ) → n ≡ b * 16 → HasProducts c n table → IsVector n v → js ≡ map g v
    → ((x : ℕ) → x < 256 → g x < 16) → swz_l w8 16 table 0 js ≡ map (λ x. product c (g x)) v
looked_up b n c table g v js groups has fits e small =
    let long : length js ≡ n = ap length e ∙ length-map v g ∙ fits.0 in
    ext_get_or 0 _ _ (length-swz_l w8 16 table 0 js ∙ long ∙ sym (length-map v (λ x. product c (g x)) ∙ fits.0)) (λ i h.
    let lt : i < n = omega (arith, length-swz_l w8 16 table 0 js) in
    let within : i < length v = omega (arith, fits.0) in
    let fit : get_or v i 0 < 256 = Each1-get_or (λ x. x < 256) v i 0 within (below_from_Fits w8 v fits.1) in
    let is : get_or js i 0 ≡ g (get_or v i 0) = ap (λ l. get_or l i 0) e ∙ get_or-map g v i 0 0 within in
    let below : get_or js i 0 < 16 = omega (arith, small (get_or v i 0) fit) in
    let inside : 16 * ((0 + i) / 16) + get_or js i 0 < n = omega arith in
    let place : (16 * ((0 + i) / 16) + get_or js i 0) % 16 ≡ g (get_or v i 0) = omega arith in
    get_or-swz_l_below w8 16 table 0 js i (omega arith) below
    ∙ has (16 * ((0 + i) / 16) + get_or js i 0) inside
    ∙ ap (product c) place
    ∙ sym (get_or-map (λ x. product c (g x)) v i 0 0 within))

-- ---- a byte is the sum of its halves

halves_each : map (λ x. bit_xor (bit_and x 15) (product 16 (x / 2 ^ 4))) (range_with_len 0 256) ≡ range_with_len 0 256
unfolding product terms twice
halves_each = refl

halves : (x : ℕ) → x < 256 → x ≡ bit_xor (bit_and x 15) (product 16 (x / 2 ^ 4))
halves x h =
    sym (sym (get_or-map-range_with_len (λ y. bit_xor (bit_and y 15) (product 16 (y / 2 ^ 4))) 0 256 x x 0 h (omega arith))
    ∙ ap (λ xs. get_or xs x 0) halves_each
    ∙ get_or-range_with_len 0 256 x 0 h ∙ omega arith)

product_by_halves : (c x : ℕ) → c < 256 → x < 256 → bit_xor (product c (bit_and x 15)) (product (product c 16) (x / 2 ^ 4)) ≡ product c x
product_by_halves c x hc hx =
    let low : bit_and x 15 < 256 = omega (arith, and_le_r x 15) in
    let high : x / 2 ^ 4 < 256 = omega arith in
    ap (bit_xor (product c (bit_and x 15))) (product_assoc c 16 (x / 2 ^ 4) hc (omega arith) high)
    ∙ sym (product_add c (bit_and x 15) (product 16 (x / 2 ^ 4)) hc low (product_lt 16 (x / 2 ^ 4) (omega arith)))
    ∙ ap (product c) (sym (halves x hx))

-- two maps that are equal at every byte
map_bytes : (f g : ℕ → ℕ) (v : List ℕ) → Each1 (Fits w8) v → ((x : ℕ) → x < 256 → f x ≡ g x) → map f v ≡ map g v
map_bytes f g [] fits h = refl
map_bytes f g (x ∷ v) fits h = ap₂ (λ (a : ℕ) (rest : List ℕ). a ∷ rest) (h x fits.0.fits) (map_bytes f g v fits.1 h)

pub products_by_halves : (b n c : ℕ) (low high v : List ℕ) → n ≡ b * 16 → c < 256 → IsVector n v → HasProducts c n low → HasProducts (product c 16) n high
    → zip2 bit_xor (swz_l w8 16 low 0 (zip2 bit_and v (replicate n 15))) (swz_l w8 16 high 0 (zip2 down v (replicate n 4))) ≡ map (product c) v
products_by_halves b n c low high v groups hc fits has_low has_high =
    ap₂ (zip2 bit_xor)
    (looked_up b n c low (λ x. bit_and x 15) v _ groups has_low fits (zip2_splat bit_and v n 15 fits.0) (λ x h. omega (arith, and_le_r x 15)))
    (looked_up b n (product c 16) high (λ x. x / 2 ^ 4) v _ groups has_high fits (zip2_splat down v n 4 fits.0) (λ x h. omega arith))
    ∙ zip2-map bit_xor (λ x. product c (bit_and x 15)) (λ x. product (product c 16) (x / 2 ^ 4)) v
    ∙ map_bytes _ _ v fits.1 (λ x h. product_by_halves c x hc h)

-- ---- the rows of the table, at every scalar

low_each : map (λ c. zip2 bit_xor (row (bit_and c 15)) (row (16 + c / 2 ^ 4))) (range_with_len 0 256) ≡ map half_products (range_with_len 0 256)
unfolding row half_products product terms twice
low_each = refl

high_each : map (λ c. zip2 bit_xor (row (16 + bit_and c 15)) (row (32 + c / 2 ^ 4))) (range_with_len 0 256)
    ≡ map (λ c. half_products (product c 16)) (range_with_len 0 256)
unfolding row half_products product terms twice
high_each = refl

-- two functions with the same value at every byte
same_at_bytes : (f g : ℕ → List ℕ) → map f (range_with_len 0 256) ≡ map g (range_with_len 0 256) → (c : ℕ) → c < 256 → f c ≡ g c
same_at_bytes f g e c h =
    sym (get_or-map-range_with_len f 0 256 c c [] h (omega arith))
    ∙ ap (λ (t : List (List ℕ)). get_or t c []) e
    ∙ get_or-map-range_with_len g 0 256 c c [] h (omega arith)

pub low_rows : (c : ℕ) → c < 256 → zip2 bit_xor (row (bit_and c 15)) (row (16 + c / 2 ^ 4)) ≡ half_products c
low_rows = same_at_bytes _ _ low_each

pub high_rows : (c : ℕ) → c < 256 → zip2 bit_xor (row (16 + bit_and c 15)) (row (32 + c / 2 ^ 4)) ≡ half_products (product c 16)
high_rows = same_at_bytes _ _ high_each

-- ---- sixteen lanes, two times

abbrev pub TWO_TIMES : List ℕ
TWO_TIMES = map (λ place. place % 16) (range_with_len 0 32)

pub two_times_is : (lanes : List ℕ) → length lanes ≡ 16 → map (λ place. get_or (lanes ++ lanes) place 0) TWO_TIMES ≡ two_times lanes
unfolding two_times
two_times_is lanes long =
    ext_get_or 0 _ _ refl (λ k h.
    let lt : k < 32 = h in
    let within : k % 16 < length lanes = omega arith in
    get_or-map-range_with_len (λ p. get_or (lanes ++ lanes) (p % 16) 0) 0 32 k k 0 lt (omega arith)
    ∙ get_or_append_left lanes lanes 0 (k % 16) within
    ∙ sym (get_or-map-range_with_len (λ p. get_or lanes (p % 16) 0) 0 32 k k 0 lt (omega arith)))

-- sixteen places of what comes from a place on
pub chunk_of_rest : (at left : ℕ) (xs : List ℕ) → 16 ≤ left → take 16 (take left (drop at xs)) ≡ chunk at 16 xs
chunk_of_rest at left xs h = take-take 16 left (drop at xs) h

pub row_is : (number : ℕ) → chunk (16 * number) 16 HALVES ≡ row number
unfolding row
row_is number = refl

-- a table with what another has
pub has_same : (c n : ℕ) (table other : List ℕ) → table ≡ other → HasProducts c n other → HasProducts c n table
has_same c n table other e has place h = ap (λ t. get_or t place 0) e ∙ has place h
