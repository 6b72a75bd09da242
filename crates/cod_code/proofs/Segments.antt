-- The columns of a segment.
use Rattle.std.proofs.Common.{◌≡◌, ◌≢◌, ℕ, zero, suc, ◌+◌, ◌-◌, ◌*◌, ◌<◌, ◌≤◌, ⊎_elim, bit_xor, refl, sym, ap, ap₂, ◌∙◌, arith, List, map, length, get_or, set, drop, replicate, slice_range}
use Rattle.std.specs.List.{range_with_len}
use Rattle.std.proofs.lemmas.Bool.{cases_eq, cases_lt}
use Rattle.std.proofs.lemmas.List.{ext_get_or, length-take, length-drop, get_or-take, get_or-drop, get_or_past, get_or-replicate, length-replicate, length-set, get_or-set_same, get_or-set_other}
use Rattle.std.proofs.lemmas.List.FromFn.{length-map-range_with_len, get_or-map-range_with_len}
use Rattle.std.proofs.Math.Nat.{mul-le-mul_right, suc-mul}
use Rattle.cod_field.specs.Field.{product}
use Rattle.cod_field.proofs.Laws.{product_zero}
use Rattle.cod_code.specs.Codewords.{AreBytes, IsCodeword}
use Rattle.cod_code.specs.Columns.{gamma, row_at, combination, sum_below}
use Rattle.cod_code.specs.Encoding.{coded}
use Rattle.cod_code.specs.Segments.{across, column_byte, column}
use Rattle.cod_code.specs.SegmentLaws.{HasCodewordBytes, ColumnHasCodewordBytes, ColumnsAreCodewords, DataColumnIsBlock, RowGivesColumn, DecodingGivesColumn, BlockChangesColumn, OtherPlacesStay}
use Rattle.cod_code.specs.SegmentLaws.{ZerosHaveZeroColumns}
use Rattle.cod_code.proofs.CodewordLaws.{data_begin_one_codeword, has_below}
use Rattle.cod_code.proofs.Encoding.{codeword_byte, coded_is_codeword, coded_changes, gamma_lt}
use Rattle.cod_code.proofs.Decoding.{decoded_is_place}
use Rattle.cod_code.proofs.Sums.{sum_below_none, sum_below_lt, sum_below_more, coded_by_sum, row_codes}

pub across_length : (k block : ℕ) (segment : List ℕ) (place : ℕ) → length (across k block segment place) ≡ k
unfolding across
across_length k block segment place = length-map-range_with_len (λ j. get_or segment (j * block + place) 0) 0 k

pub across_at : (k block j : ℕ) (segment : List ℕ) (place : ℕ) → j < k → get_or (across k block segment place) j 0 ≡ get_or segment (j * block + place) 0
unfolding across
across_at k block j segment place h = get_or-map-range_with_len (λ m. get_or segment (m * block + place) 0) 0 k j j 0 h (omega arith)

pub across_bytes : (k block : ℕ) (segment : List ℕ) (place : ℕ) → AreBytes segment → AreBytes (across k block segment place)
across_bytes k block segment place b j =
    ⊎_elim
    (λ (h : j < k). rw (across_at k block j segment place h) (b (j * block + place)))
    (λ (h : k ≤ j).
    let past : length (across k block segment place) ≤ j = omega (arith, across_length k block segment place) in
    rw (get_or_past (across k block segment place) j 0 past) (omega arith))
    (cases_lt j k)

-- two segments with the same data bytes at a place
across_same : (k block : ℕ) (before after : List ℕ) (place : ℕ)
    → ((m : ℕ) → m < k → get_or after (m * block + place) 0 ≡ get_or before (m * block + place) 0)
    → across k block after place ≡ across k block before place
across_same k block before after place same =
    ext_get_or 0 (across k block after place) (across k block before place) (across_length k block after place ∙ sym (across_length k block before place))
    (λ j h. let lt : j < k = omega (arith, across_length k block after place) in
    across_at k block j after place lt ∙ same j lt ∙ sym (across_at k block j before place lt))

pub column_length : (k block i : ℕ) (segment : List ℕ) → length (column k block i segment) ≡ block
unfolding column
column_length k block i segment = length-map-range_with_len (column_byte k block i segment) 0 block

pub column_at : (k block i : ℕ) (segment : List ℕ) (place : ℕ) → place < block → get_or (column k block i segment) place 0 ≡ column_byte k block i segment place
unfolding column
column_at k block i segment place h = get_or-map-range_with_len (column_byte k block i segment) 0 block place place 0 h (omega arith)

-- a list with the bytes of column i is the column
pub column_is : (k block i : ℕ) (segment bytes : List ℕ) → length bytes ≡ block
    → ((place : ℕ) → place < block → get_or bytes place 0 ≡ column_byte k block i segment place) → bytes ≡ column k block i segment
column_is k block i segment bytes size at =
    ext_get_or 0 bytes (column k block i segment) (size ∙ sym (column_length k block i segment))
    (λ place h. let lt : place < block = omega arith in at place lt ∙ sym (column_at k block i segment place lt))

column_byte_is : (k block i : ℕ) (segment : List ℕ) (place : ℕ) → column_byte k block i segment place ≡ coded k i (across k block segment place)
unfolding column_byte
column_byte_is k block i segment place = refl

-- the byte of a column, as a loop over the blocks sums it
pub column_byte_by_sum : (k block i : ℕ) (segment : List ℕ) (place : ℕ)
    → column_byte k block i segment place ≡ sum_below (gamma k i) (λ j. get_or segment (j * block + place) 0) k
unfolding column_byte across
column_byte_by_sum k block i segment place = coded_by_sum k i (λ j. get_or segment (j * block + place) 0)

pub column_byte_lt : (k block i : ℕ) (segment : List ℕ) (place : ℕ) → column_byte k block i segment place < 256
column_byte_lt k block i segment place =
    rw (column_byte_by_sum k block i segment place) (sum_below_lt (gamma k i) (λ j. get_or segment (j * block + place) 0) k (gamma_lt k i))

pub column_bytes : (k block i : ℕ) (segment : List ℕ) → AreBytes (column k block i segment)
column_bytes k block i segment place =
    ⊎_elim
    (λ (h : place < block). rw (column_at k block i segment place h) (column_byte_lt k block i segment place))
    (λ (h : block ≤ place).
    let past : length (column k block i segment) ≤ place = omega (arith, column_length k block i segment) in
    rw (get_or_past (column k block i segment) place 0 past) (omega arith))
    (cases_lt place block)

pub column_has_codeword_bytes : ColumnHasCodewordBytes
column_has_codeword_bytes n k block i segment le most h b =
    let each : (place : ℕ) (v : List ℕ) → IsCodeword n k v → slice_range v 0 k ≡ across k block segment place → get_or v i 0 ≡ column_byte k block i segment place =
    λ place v c front. codeword_byte n k i v (across k block segment place) le most h c front ∙ sym (column_byte_is k block i segment place) in
    let is : HasCodewordBytes n k block i segment (column k block i segment) = record {
      size = column_length k block i segment;
      each = λ place v lt c front. column_at k block i segment place lt ∙ sym (each place v c front);
    } in (
      is,
      λ bytes w.
          column_is k block i segment bytes w.size
          (λ place lt.
          let found = data_begin_one_codeword n k (across k block segment place) le most (across_length k block segment place) (across_bytes k block segment place b) in
          w.each place found.0 lt found.1 found.2 ∙ each place found.0 found.1 found.2),
    )

pub columns_are_codewords : ColumnsAreCodewords
unfolding column_byte
columns_are_codewords n k block place segment le most b =
    (coded_is_codeword n k (across k block segment place) le most (across_length k block segment place) (across_bytes k block segment place b)).0

-- the byte of a data column
pub data_byte : (k block j place : ℕ) (segment : List ℕ) → k ≤ 256 → AreBytes segment → j < k
    → column_byte k block j segment place ≡ get_or segment (j * block + place) 0
data_byte k block j place segment most b h =
    column_byte_is k block j segment place
    ∙ (coded_is_codeword k k (across k block segment place) (omega arith) most (across_length k block segment place) (across_bytes k block segment place b)).1 j h
    ∙ across_at k block j segment place h

-- the places of a block
pub block_length : (xs : List ℕ) (k j block : ℕ) → length xs ≡ k * block → j < k → length (slice_range xs (j * block) (j * block + block)) ≡ block
block_length xs k j block long h =
    let from = j * block in
    let fits : suc j * block ≤ k * block = mul-le-mul_right block h in
    let room : from + block ≤ length xs = omega (arith, suc-mul j block) in
    omega (arith, length-take (from + block - from) (drop from xs), length-drop from xs)

pub block_at : (xs : List ℕ) (from block place : ℕ) → place < block → get_or (slice_range xs from (from + block)) place 0 ≡ get_or xs (from + place) 0
block_at xs from block place h =
    let lt : place < from + block - from = omega arith in
    get_or-take (from + block - from) (drop from xs) place 0 lt ∙ get_or-drop from xs place 0

pub data_column_is_block : DataColumnIsBlock
data_column_is_block k block j segment most long b h =
    sym (column_is k block j segment (slice_range segment (j * block) (j * block + block)) (block_length segment k j block long h)
    (λ place lt. block_at segment (j * block) block place lt ∙ sym (data_byte k block j place segment most b h)))

pub row_gives_column : RowGivesColumn
row_gives_column k block i segment most =
    let f = λ (place : ℕ). combination (row_at k i) (across k block segment place) in
    sym (column_is k block i segment (map f (range_with_len 0 block)) (length-map-range_with_len f 0 block)
    (λ place lt.
    get_or-map-range_with_len f 0 block place place 0 lt (omega arith)
    ∙ row_codes k i (across k block segment place) most (across_length k block segment place)
    ∙ sym (column_byte_is k block i segment place)))

pub decoding_gives_column : DecodingGivesColumn
decoding_gives_column n k block sources wanted place segment byte le most b ones below h same =
    let f = λ (i : ℕ). column_byte k block i segment place in
    let v = map f (range_with_len 0 n) in
    let at : (i : ℕ) → i < n → get_or v i 0 ≡ f i = λ i lt. get_or-map-range_with_len f 0 n i i 0 lt (omega arith) in
    decoded_is_place n k sources wanted v byte most (columns_are_codewords n k block place segment le (omega arith) b) ones below h
    (λ j is. same j is ∙ sym (at j (has_below sources n j below is)))
    ∙ at wanted h

pub block_changes_column : BlockChangesColumn
block_changes_column k block i j place change before after b h hc own others =
    let old = across k block before place in
    let new = across k block after place in
    let long : length old ≡ k = across_length k block before place in
    let value = bit_xor (get_or old j 0) change in
    let is : new ≡ set old j value =
    ext_get_or 0 new (set old j value) (across_length k block after place ∙ sym (length-set old j value ∙ long))
    (λ m lt.
    let small : m < k = omega (arith, across_length k block after place) in
    ⊎_elim
    (λ (e : m ≡ j).
    let inside : j < length old = omega arith in
    ap (λ q. get_or new q 0) e
    ∙ across_at k block j after place h ∙ own
    ∙ ap (λ q. bit_xor q change) (sym (across_at k block j before place h))
    ∙ sym (get_or-set_same old j value 0 inside)
    ∙ ap (λ q. get_or (set old j value) q 0) (sym e))
    (λ (e : m ≢ j).
    across_at k block m after place small ∙ others m small e ∙ sym (across_at k block m before place small)
    ∙ sym (get_or-set_other old j m value 0 e))
    (cases_eq m j)) in
    column_byte_is k block i after place
    ∙ ap (coded k i) is
    ∙ coded_changes k i j change old long (across_bytes k block before place b) h hc
    ∙ ap (λ q. bit_xor q (product (gamma k i j) change)) (sym (column_byte_is k block i before place))

pub other_places_stay : OtherPlacesStay
other_places_stay k block i place before after same =
    column_byte_is k block i after place ∙ ap (coded k i) (across_same k block before after place same) ∙ sym (column_byte_is k block i before place)

sum_of_zeros : (c b : ℕ → ℕ) (count : ℕ) → ((j : ℕ) → c j < 256) → ((j : ℕ) → b j ≡ 0) → sum_below c b count ≡ 0
sum_of_zeros c b zero hc none = sum_below_none c b
sum_of_zeros c b (suc count) hc none =
    let at : suc count ≡ count + 1 = omega arith in
    ap (sum_below c b) at
    ∙ sum_below_more c b count
    ∙ ap₂ bit_xor (sum_of_zeros c b count hc none) (ap (product (c count)) (none count) ∙ product_zero (c count) (hc count))

replicate_at : (n i : ℕ) → ◌≡◌ {A = ℕ} (get_or (replicate n 0) i 0) 0
replicate_at n i =
    ⊎_elim
    (λ (h : i < n). get_or-replicate {A = ℕ} n i 0 0 h)
    (λ (h : n ≤ i). let past : length (replicate {A = ℕ} n 0) ≤ i = omega (arith, length-replicate {A = ℕ} n 0) in get_or_past (replicate {A = ℕ} n 0) i 0 past)
    (cases_lt i n)

pub zeros_have_zero_columns : ZerosHaveZeroColumns
zeros_have_zero_columns k block i =
    let zeros = replicate {A = ℕ} (k * block) 0 in
    sym (column_is k block i zeros (replicate {A = ℕ} block 0) (length-replicate {A = ℕ} block 0)
    (λ place lt.
    replicate_at block place
    ∙ sym (column_byte_by_sum k block i zeros place
    ∙ sum_of_zeros (gamma k i) (λ j. get_or zeros (j * block + place) 0) k (gamma_lt k i) (λ j. replicate_at (k * block) (j * block + place)))))
