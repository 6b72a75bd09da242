-- A change of several blocks at a place.
use Rattle.std.proofs.Common.{◌≡◌, ℕ, zero, suc, ◌+◌, ◌*◌, ◌<◌, bit_xor, sym, ap, ap₂, ◌∙◌, refl, arith, get_or}
use Rattle.std.specs.Int.Bits.{xor_assoc, xor_self, xor_zero_l}
use Rattle.std.proofs.lemmas.Nat.{xor_lt}
use Rattle.cod_field.specs.Field.{product}
use Rattle.cod_field.proofs.Laws.{product_add, xor_swap}
use Rattle.cod_code.specs.Columns.{gamma, sum_below}
use Rattle.cod_code.specs.SegmentLaws.{BlocksChangeColumn}
use Rattle.cod_code.proofs.Encoding.{gamma_lt}
use Rattle.cod_code.proofs.Segments.{column_byte_by_sum}
use Rattle.cod_code.proofs.Sums.{sum_below_more, sum_below_none}

-- a sum of sums is a sum term by term
pub sum_split : (c a d e : ℕ → ℕ) (n : ℕ) → ((j : ℕ) → c j < 256) → ((j : ℕ) → a j < 256) → ((j : ℕ) → j < n → d j < 256) → ((j : ℕ) → j < n → e j ≡ bit_xor (a j) (d j))
    → sum_below c e n ≡ bit_xor (sum_below c a n) (sum_below c d n)
sum_split c a d e zero hc ha hd he = rw (sum_below_none c e, sum_below_none c a, sum_below_none c d) refl
sum_split c a d e (suc n) hc ha hd he =
    let at : suc n ≡ n + 1 = omega arith in
    let before = sum_split c a d e n hc ha (λ j lt. hd j (omega arith)) (λ j lt. he j (omega arith)) in
    let here : product (c n) (e n) ≡ bit_xor (product (c n) (a n)) (product (c n) (d n)) =
    ap (product (c n)) (he n (omega arith)) ∙ product_add (c n) (a n) (d n) (hc n) (ha n) (hd n (omega arith)) in
    rw at (
    sum_below_more c e n ∙ ap₂ bit_xor before here
    ∙ xor_swap (sum_below c a n) (sum_below c d n) (product (c n) (a n)) (product (c n) (d n))
    ∙ sym (ap₂ bit_xor (sum_below_more c a n) (sum_below_more c d n)))

-- what is added, twice over, is nothing
pub xor_back : (a d : ℕ) → bit_xor a (bit_xor a d) ≡ d
xor_back a d = sym (xor_assoc a a d) ∙ ap (λ (z : ℕ). bit_xor z d) (xor_self a) ∙ xor_zero_l d

pub blocks_change_column : BlocksChangeColumn
blocks_change_column k block i x before after change old new each =
    let was : ℕ → ℕ = λ j. get_or before (j * block + x) 0 in
    let is : ℕ → ℕ = λ j. get_or after (j * block + x) 0 in
    let small : (j : ℕ) → j < k → change j < 256 = λ j lt.
    let e : change j ≡ bit_xor (was j) (is j) = sym (xor_back (was j) (change j)) ∙ ap (bit_xor (was j)) (sym (each j lt)) in
    rw e (xor_lt 8 (was j) (is j) (old (j * block + x)) (new (j * block + x))) in
    column_byte_by_sum k block i after x
    ∙ sum_split (gamma k i) was change is k (gamma_lt k i) (λ j. old (j * block + x)) small each
    ∙ ap (λ (z : ℕ). bit_xor z (sum_below (gamma k i) change k)) (sym (column_byte_by_sum k block i before x))
