-- Sums of columns, and what they are.
use Rattle.std.proofs.Common.{◌≡◌, ℕ, zero, suc, ◌+◌, ◌-◌, ◌^◌, ◌<◌, ◌≤◌, nat_eq, false, List, length, take, drop, get_or, bit_xor, refl, sym, ap, ap₂, ◌∙◌, arith, add-one, Result, OnOk}
use Rattle.std.specs.Prelude.{count_ones}
use Rattle.std.specs.Int.Bits.{xor_zero_r}
use Rattle.std.proofs.lemmas.List.{ext_get_or, get_or-take, get_or-drop, length-take, length-drop}
use Rattle.std.proofs.lemmas.Nat.Bits.{bit_at_above}
use Rattle.std.proofs.lemmas.Result.{on_ok_weaker}
use Rattle.cod_field.specs.Field.{product}
use Rattle.cod_field.proofs.Laws.{product_zero_left}
use Rattle.cod_types.specs.Plain.{bytes_at}
use Rattle.cod_code.specs.Codewords.{AreBytes}
use Rattle.cod_code.specs.Columns.{decode_row_at, has_column, sum_below}
use Rattle.cod_code.specs.Decoding.{decoded}
use Rattle.cod_code.specs.Segments.{column, column_byte}
use Rattle.cod_code.proofs.Segments.{column_at, column_length, decoding_gives_column}
use Rattle.cod_code.proofs.Sums.{decode_row_place, decode_weight, decode_weight_elsewhere, decoded_by_sum, sum_below_more, sum_below_none, sum_below_skip}
use Rattle.cod_repair.specs.Pieces.{sum_of}

pub sum_of_more : (row : List ℕ) (byte : ℕ → ℕ) (m : ℕ) → sum_of row byte (m + 1) ≡ bit_xor (sum_of row byte m) (product (get_or row m 0) (byte m))
sum_of_more row byte m = rw (add-one m) refl

-- a column with the coefficient 0 adds nothing
pub sum_of_skip : (row : List ℕ) (byte : ℕ → ℕ) (m : ℕ) → get_or row m 0 ≡ 0 → sum_of row byte m ≡ sum_of row byte (m + 1)
sum_of_skip row byte m none =
    sym (sum_of_more row byte m ∙ ap (λ (c : ℕ). bit_xor (sum_of row byte m) (product c (byte m))) none
    ∙ ap (bit_xor (sum_of row byte m)) (product_zero_left (byte m)) ∙ xor_zero_r (sum_of row byte m))

-- ---- sums by the decoding row

none_above : (sources n j : ℕ) → sources < 2 ^ n → n ≤ j → has_column sources j ≡ false
none_above sources n j small past = ap (λ b. nat_eq b 1) (bit_at_above sources n j small past)

by_weights : (sources wanted : ℕ) (b : ℕ → ℕ) (m : ℕ) → m ≤ 16 → sum_of (decode_row_at sources wanted) b m ≡ sum_below (decode_weight sources wanted) b m
by_weights sources wanted b zero le = sym (sum_below_none (decode_weight sources wanted) b)
by_weights sources wanted b (suc m) le =
    let lt : m < 16 = omega arith in
    let at : suc m ≡ m + 1 = omega arith in
    ap₂ (λ (s c : ℕ). bit_xor s (product c (b m))) (by_weights sources wanted b m (omega arith)) (decode_row_place sources wanted m lt)
    ∙ sym (ap (sum_below (decode_weight sources wanted) b) at ∙ sum_below_more (decode_weight sources wanted) b m)

no_more : (sources wanted : ℕ) (b : ℕ → ℕ) (n d : ℕ) → sources < 2 ^ n → sum_below (decode_weight sources wanted) b (n + d) ≡ sum_below (decode_weight sources wanted) b n
no_more sources wanted b n zero small = let at : n + 0 ≡ n = omega arith in ap (sum_below (decode_weight sources wanted) b) at
no_more sources wanted b n (suc d) small =
    let at : n + suc d ≡ n + d + 1 = omega arith in
    ap (sum_below (decode_weight sources wanted) b) at
    ∙ sum_below_skip (decode_weight sources wanted) b (n + d) (decode_weight_elsewhere sources wanted (n + d) (none_above sources n (n + d) small (omega arith)))
    ∙ no_more sources wanted b n d small

sum_is_decoded : (sources wanted : ℕ) (b : ℕ → ℕ) (n : ℕ) → n ≤ 16 → sources < 2 ^ n → sum_of (decode_row_at sources wanted) b n ≡ decoded sources wanted b
sum_is_decoded sources wanted b n le small =
    let at : n + (16 - n) ≡ 16 = omega arith in
    by_weights sources wanted b n le
    ∙ sym (ap (sum_below (decode_weight sources wanted) b) (sym at) ∙ no_more sources wanted b n (16 - n) small)
    ∙ sym (decoded_by_sum sources wanted b)

-- the sum of the sources at each place of a range is the wanted column there
piece_is : (n k block sources wanted off : ℕ) (segment into : List ℕ)
    → k ≤ n → n ≤ 16 → AreBytes segment → count_ones sources ≡ k → sources < 2 ^ n → wanted < n → off + length into ≤ block
    → ((x : ℕ) → x < length into → get_or into x 0 ≡ sum_of (decode_row_at sources wanted) (λ i. column_byte k block i segment (off + x)) n)
    → into ≡ bytes_at (column k block wanted segment) off (length into)
piece_is n k block sources wanted off segment into le most bytes count small inside fits sums =
    let col = column k block wanted segment in
    let size : length (take (length into) (drop off col)) ≡ length into = let l = column_length k block wanted segment in omega (arith, length-take {A = ℕ}, length-drop {A = ℕ}) in
    ext_get_or 0 into (take (length into) (drop off col)) (sym size)
    (λ x lt.
    let byte = λ (i : ℕ). column_byte k block i segment (off + x) in
    let within : off + x < block = omega arith in
    sums x lt
    ∙ sum_is_decoded sources wanted byte n most small
    ∙ decoding_gives_column n k block sources wanted (off + x) segment byte le most bytes count small inside (λ j is. refl)
    ∙ sym (get_or-take (length into) (drop off col) x 0 lt ∙ get_or-drop off col x 0 ∙ column_at k block wanted segment (off + x) within))

pub piece_bytes : {E : Type 0} (result : Result (Unit {0}) E) (n k block sources wanted off len m : ℕ) (segment into row : List ℕ)
    → k ≤ n → n ≤ 16 → AreBytes segment → count_ones sources ≡ k → sources < 2 ^ n → wanted < n → off + len ≤ block
    → length into ≡ len → row ≡ decode_row_at sources wanted → m ≡ n
    → OnOk result ((x : ℕ) → x < len → get_or into x 0 ≡ sum_of row (λ i. column_byte k block i segment (off + x)) m)
    → OnOk result (into ≡ bytes_at (column k block wanted segment) off len)
piece_bytes result n k block sources wanted off len m segment into row le most bytes count small inside fits size is all =
    on_ok_weaker result (λ sums. rw (← size) (piece_is n k block sources wanted off segment into le most bytes count small inside (omega arith)
    (λ x lt. sums x (omega arith)
    ∙ ap₂ (λ (r : List ℕ) (m : ℕ). sum_of r (λ i. column_byte k block i segment (off + x)) m) is all)))
