-- The text of a record that is to be appended.
use Rattle.std.proofs.Common.{◌≡◌, ◌≢◌, ℕ, suc, ◌+◌, ◌<◌, ◌≤◌, ◌^◌, List, [], ◌∷◌, ◌++◌, length, get_or, refl, sym, ap, ◌∙◌, arith, inl, inr, length-append}
use Rattle.std.proofs.lemmas.Bool.{cases_eq, eq-eqb, ne_eqb}
use Rattle.cod_record.specs.declared.parts.Head.{Head}
use Rattle.cod_record.specs.Head.{head_record, head_text, InRange}
use Rattle.cod_record.specs.Record.{AreInside, count_text, IsRecord, Range, range, range_byte, range_text, ranges_text, Record, record_text}
use Rattle.cod_record.specs.Sparse.{ranges_of, sparse_length, sparse_record}
use Rattle.cod_field.specs.Field.{product}
use Rattle.cod_field.proofs.Laws.{product_zero, product_zero_left}
use Rattle.cod_field.proofs.Tables.{product_cancel}
use Rattle.std.proofs.lemmas.List.{length-map}
use Rattle.cod_record.proofs.Heads.{head_begins_record}
use Rattle.cod_record.proofs.Inside.{ranges_of-inside}
use Rattle.cod_record.proofs.Same_places.{KeepsZeros, mapped_length, zeros_none}
use Rattle.cod_record.proofs.Lengths.{length-ranges_text, most}
use Rattle.cod_record.proofs.Texts.{length-range_text}
use Rattle.cod_record.proofs.Splitting.{ranges_of-bytes}
use Rattle.cod_types.specs.Limits.{record_overhead, Shape}
use Rattle.cod_types.specs.Overwritten.{byte_at}
use Rattle.cod_parity.specs.Log.{IsIn, logged, logged_length, scaled, text}

pub second_is : (version : ℕ) (h : Head) (bytes : List ℕ) → version ≡ 2 → logged version h bytes ≡ record { version = 2; whole = sparse_record h.block h.number h.off bytes }
unfolding logged
second_is version h bytes e = rw e refl

pub first_is : (version : ℕ) (h : Head) (bytes : List ℕ) → version ≡ 1 → logged version h bytes ≡ record { version = 1; whole = head_record h bytes }
unfolding logged
first_is version h bytes e = rw e refl

pub second_length_is : (version : ℕ) (h : Head) (bytes : List ℕ) → version ≡ 2 → logged_length version h bytes ≡ sparse_length (ranges_of h.off bytes)
unfolding logged_length
second_length_is version h bytes e = rw e refl

pub first_length_is : (version : ℕ) (h : Head) (bytes : List ℕ) → (version ≡ 2 → ⊥) → logged_length version h bytes ≡ 19 + length bytes
unfolding logged_length
first_length_is version h bytes other = rw (ne_eqb version 2 other) refl

length-second : (r : Record) → length (record_text 2 r) ≡ 13 + length (ranges_text r.ranges)
unfolding record_text count_text
length-second r =
    let n : ℕ = length (ranges_text r.ranges) in
    let e : length (record_text 2 r) ≡ suc (suc (suc (suc (suc (suc (suc (suc (suc (suc (suc (suc (suc n)))))))))))) = refl in
    omega (arith, e)

length-first : (h : Head) (bytes : List ℕ) → length (record_text 1 (head_record h bytes)) ≡ 11 + length (range_text (range h.off bytes) ++ [])
unfolding record_text count_text
length-first h bytes =
    let n : ℕ = length (range_text (range h.off bytes) ++ []) in
    let e : length (record_text 1 (head_record h bytes)) ≡ suc (suc (suc (suc (suc (suc (suc (suc (suc (suc (suc n)))))))))) = refl in
    omega (arith, e)

-- the length that is told is the text's
pub length-logged : (version : ℕ) (h : Head) (bytes : List ℕ) → 1 ≤ version → version ≤ 2 → length (text (logged version h bytes)) ≡ logged_length version h bytes
unfolding text
length-logged version h bytes first last = elim (cases_eq version 2) [
  | inl second ↦
      rw (second_is version h bytes second, second_length_is version h bytes second)
      (length-second (sparse_record h.block h.number h.off bytes) ∙ ap (λ (n : ℕ). 13 + n) (length-ranges_text (ranges_of h.off bytes)))
  | inr other ↦
      let one : version ≡ 1 = omega arith in
      rw (first_is version h bytes one, first_length_is version h bytes other)
      (length-first h bytes ∙ (let e = length-append (range_text (range h.off bytes)) [] in let f = length-range_text (range h.off bytes) in omega (arith, e, f)))
]

pub record_second : (version : ℕ) (h : Head) (bytes : List ℕ) → version ≡ 2
    → IsRecord 2 (sparse_record h.block h.number h.off bytes) (record_text 2 (sparse_record h.block h.number h.off bytes))
    → IsRecord version (logged version h bytes).whole (text (logged version h bytes))
unfolding text
record_second version h bytes second is = rw (second_is version h bytes second, second) is

pub text_second : (version : ℕ) (h : Head) (bytes : List ℕ) → version ≡ 2 → text (logged version h bytes) ≡ record_text 2 (sparse_record h.block h.number h.off bytes)
unfolding text
text_second version h bytes second = rw (second_is version h bytes second) refl

pub text_first : (version : ℕ) (h : Head) (bytes : List ℕ) → version ≡ 1 → InRange h → 19 + h.len < 2 ^ 32 → length bytes ≡ h.len
    → text (logged version h bytes) ≡ head_text h ++ bytes
unfolding text
text_first version h bytes one in_range fits len = rw (first_is version h bytes one) (sym (head_begins_record h bytes in_range fits len).text_is)

pub record_first : (version : ℕ) (h : Head) (bytes : List ℕ) → version ≡ 1 → InRange h → 19 + h.len < 2 ^ 32 → length bytes ≡ h.len
    → IsRecord version (logged version h bytes).whole (text (logged version h bytes))
record_first version h bytes one in_range fits len =
    let is = head_begins_record h bytes in_range fits len in
    rw (text_first version h bytes one in_range fits len) (rw (first_is version h bytes one, one) is)

-- over zeros the record has just the bytes
pub logged_bytes : (version : ℕ) (h : Head) (bytes : List ℕ) → 1 ≤ version → version ≤ 2 → h.off + length bytes < 2 ^ 32
    → (x : ℕ) → range_byte (logged version h bytes).whole.ranges x ≡ byte_at x 0 h.off bytes
logged_bytes version h bytes first last fits x = elim (cases_eq version 2) [
  | inl second ↦ rw (second_is version h bytes second) (ranges_of-bytes h.off bytes fits x)
  | inr other ↦ rw (first_is version h bytes (omega arith)) refl
]

pub logged_place : (version : ℕ) (h : Head) (bytes : List ℕ) → 1 ≤ version → version ≤ 2
    → ((logged version h bytes).whole.block ≡ h.block) × ((logged version h bytes).whole.number ≡ h.number)
logged_place version h bytes first last = elim (cases_eq version 2) [
  | inl second ↦ rw (second_is version h bytes second) (refl, refl)
  | inr other ↦ rw (first_is version h bytes (omega arith)) (refl, refl)
]

inside_more : (ranges : List Range) (end more : ℕ) → end ≤ more → AreInside end ranges → AreInside more ranges
inside_more [] end more le are = tt
inside_more (g ∷ gs) end more le are = (omega (arith, are.0), inside_more gs end more le are.1)

logged_inside : (version : ℕ) (h : Head) (bytes : List ℕ) → 1 ≤ version → version ≤ 2 → AreInside (h.off + length bytes) (logged version h bytes).whole.ranges
logged_inside version h bytes first last = elim (cases_eq version 2) [
  | inl second ↦ rw (second_is version h bytes second) (ranges_of-inside h.off bytes)
  | inr other ↦ rw (first_is version h bytes (omega arith)) (omega arith, tt)
]

-- the record lies inside the block
pub logged_in : (g : Shape) (version : ℕ) (h : Head) (bytes : List ℕ) → 1 ≤ version → version ≤ 2 → h.block < g.k → h.off + length bytes ≤ g.block
    → IsRecord version (logged version h bytes).whole (text (logged version h bytes)) → IsIn g (logged version h bytes)
unfolding logged
logged_in g version h bytes first last few inside is = record {
  is = is;
  block = let place = logged_place version h bytes first last in omega (arith, place.0, few);
  inside = inside_more (logged version h bytes).whole.ranges (h.off + length bytes) g.block inside (logged_inside version h bytes first last);
}

-- a coefficient that isn't 0 leaves just the zeros
keeps_zeros : (coef : ℕ) (bytes : List ℕ) → coef ≢ 0 → coef < 256 → ((i : ℕ) → get_or bytes i 0 < 256) → KeepsZeros (product coef) bytes
keeps_zeros coef bytes some small are i within = elim (cases_eq (get_or bytes i 0) 0) [
  | inl none ↦ let e : product coef (get_or bytes i 0) ≡ 0 = ap (product coef) none ∙ product_zero coef small in rw (e, none) refl
  | inr not_none ↦ rw (ne_eqb (product coef (get_or bytes i 0)) 0 (λ e. not_none (product_cancel coef (get_or bytes i 0) small (are i) some e)), ne_eqb (get_or bytes i 0) 0 not_none) refl
]

-- such a coefficient leaves the text's length
pub scaled_length : (version coef : ℕ) (h : Head) (bytes : List ℕ) → (version ≡ 2 → coef ≢ 0) → coef < 256 → ((i : ℕ) → get_or bytes i 0 < 256)
    → logged_length version h (scaled coef bytes) ≡ logged_length version h bytes
scaled_length version coef h bytes some small are = elim (cases_eq version 2) [
  | inl second ↦
      rw (second_length_is version h (scaled coef bytes) second, second_length_is version h bytes second)
      (ap (λ (n : ℕ). 13 + n) (mapped_length (product coef) h.off bytes (keeps_zeros coef bytes (some second) small are)))
  | inr other ↦ rw (first_length_is version h (scaled coef bytes) other, first_length_is version h bytes other) (ap (λ (n : ℕ). 19 + n) (length-map bytes (product coef)))
]

-- nothing is left of bytes times 0
pub nothing_length : (version coef : ℕ) (h : Head) (bytes : List ℕ) → version ≡ 2 → coef ≡ 0 → logged_length version h (scaled coef bytes) ≡ 13
nothing_length version coef h bytes second none =
    let e : ranges_of h.off (scaled coef bytes) ≡ [] = rw none (zeros_none (product 0) h.off bytes product_zero_left) in
    second_length_is version h (scaled coef bytes) second ∙ ap sparse_length e

overhead_least : (version : ℕ) → 19 ≤ record_overhead version
overhead_least version = elim (cases_eq version 2) [
  | inl second ↦ rw (eq-eqb version 2 second) (omega arith)
  | inr other ↦ rw (ne_eqb version 2 other) (omega arith)
]

-- the text has no more bytes than a geometry of its version allows for
pub logged_most : (g : Shape) (version : ℕ) (h : Head) (bytes : List ℕ) → (version ≡ 2 → g.version ≡ 2) → logged_length version h bytes ≤ record_overhead g.version + length bytes
logged_most g version h bytes asks = elim (cases_eq version 2) [
  | inl second ↦
      let over : record_overhead g.version ≡ 21 = rw (eq-eqb g.version 2 (asks second)) refl in
      let e = second_length_is version h bytes second in
      let m = most h.off bytes in
      omega (arith, over, e, m)
  | inr other ↦ let e = first_length_is version h bytes other in let o = overhead_least g.version in omega (arith, e, o)
]
