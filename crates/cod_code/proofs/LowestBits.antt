-- Bits that are set for the lowest columns that are marked.
use Rattle.std.proofs.Common.{◌≡◌, ◌≢◌, ℕ, zero, suc, ◌+◌, ◌*◌, ◌%◌, ◌^◌, ◌<◌, ◌≤◌, ◌&&◌, nat_lt, nat_eq, min, List, [], ◌∷◌, length, Bool, true, false, cond, refl, sym, ap, ap₂, ◌∙◌, arith, add-one, inl, inr, length-append, w16, get_or}
use Rattle.std.specs.Prelude.{count_ones, bit_or}
use Rattle.std.specs.List.{filter, range_with_len}
use Rattle.std.proofs.Math.Nat.{pow-suc}
use Rattle.std.proofs.lemmas.Nat.{or_lt}
use Rattle.std.proofs.lemmas.Nat.Bits.{bit_at_set_same, bit_at_set_other, bit_at-zero}
use Rattle.std.proofs.lemmas.Bool.{cases_eq, cases_lt, lt-ltb, le-ltb}
use Rattle.std.proofs.lemmas.List.{get_or_past}
use Rattle.std.proofs.lemmas.List.Elements.{filter-append}
use Rattle.cod_code.specs.Columns.{has_column}
use Rattle.cod_code.proofs.Count.{counted_ones}
use Rattle.cod_code.proofs.Rows.{range_more}
use Rattle.cod_code.specs.Choosing.{is_lowest, marked_below}

pub set_bit : ℕ → ℕ → ℕ
set_bit sources i = bit_or sources (1 * 2 ^ i % 2 ^ 16)

-- the bits below i are those of the test, and the others aren't set
abbrev pub below : (src : ℕ → Bool) (i j : ℕ) → Bool
below src i j = nat_lt j i && src j

below_same : (src : ℕ → Bool) (i j : ℕ) → j ≢ i → below src i j ≡ below src (i + 1) j
below_same src i j other = elim (cases_lt j i) [
  | inl low ↦ let high : j < i + 1 = omega arith in rw (lt-ltb j i low, lt-ltb j (i + 1) high) refl
  | inr from ↦ let past : i + 1 ≤ j = omega arith in rw (le-ltb j i from, le-ltb j (i + 1) past) refl
]

pub bits_more : (src : ℕ → Bool) (sources i : ℕ) → i < 16 → src i ≡ true → ((j : ℕ) → has_column sources j ≡ below src i j)
    → (j : ℕ) → has_column (bit_or sources (1 * 2 ^ i % 2 ^ 16)) j ≡ below src (i + 1) j
bits_more src sources i within is bits j = elim (cases_eq j i) [
  | inl here ↦
      let low : i < i + 1 = omega arith in
      rw here (ap (λ b. nat_eq b 1) (bit_at_set_same w16 sources i within) ∙ sym (rw (lt-ltb i (i + 1) low, is) refl))
  | inr other ↦ ap (λ b. nat_eq b 1) (bit_at_set_other w16 sources i within j other) ∙ bits j ∙ below_same src i j other
]

and_false : (a : Bool) → a && false ≡ false
and_false true = refl
and_false false = refl

pub bits_skip : (src : ℕ → Bool) (sources i : ℕ) → src i ≡ false → ((j : ℕ) → has_column sources j ≡ below src i j)
    → (j : ℕ) → has_column sources j ≡ below src (i + 1) j
bits_skip src sources i is bits j = bits j ∙ elim (cases_eq j i) [
  | inl here ↦ rw (here, is) (and_false (nat_lt i i) ∙ sym (and_false (nat_lt i (i + 1))))
  | inr other ↦ below_same src i j other
]

pub bits_none : (src : ℕ → Bool) (j : ℕ) → has_column 0 j ≡ below src 0 j
bits_none src j = ap (λ b. nat_eq b 1) (bit_at-zero j) ∙ sym (rw (le-ltb j 0 (omega arith)) refl)

pub bits_bound : (sources i : ℕ) → sources < 2 ^ i → bit_or sources (1 * 2 ^ i % 2 ^ 16) < 2 ^ (i + 1)
bits_bound sources i small =
    let p = pow-suc 2 i in
    rw (add-one i) (or_lt (suc i) sources (1 * 2 ^ i % 2 ^ 16) (omega (arith, p)) (omega (arith, p)))

-- ---- the lowest marked columns

past_none : (k : ℕ) (marks : List Bool) (j : ℕ) → length marks ≤ j → is_lowest k marks j ≡ false
past_none k marks j past = rw (get_or_past marks j false past) refl

pub bits_all : (k : ℕ) (marks : List Bool) (sources : ℕ) → ((j : ℕ) → has_column sources j ≡ below (is_lowest k marks) (length marks) j)
    → (j : ℕ) → has_column sources j ≡ is_lowest k marks j
bits_all k marks sources bits j = bits j ∙ elim (cases_lt j (length marks)) [
  | inl low ↦ rw (lt-ltb j (length marks) low) refl
  | inr past ↦ rw (le-ltb j (length marks) past) (sym (past_none k marks j past))
]

-- the next column is a source where it is marked and not yet k are
pub is_next : (k : ℕ) (marks : List Bool) (i : ℕ) → get_or marks i false ≡ true → marked_below marks i < k → is_lowest k marks i ≡ true
is_next k marks i marked few = rw (marked, lt-ltb (marked_below marks i) k few) refl

pub not_marked : (k : ℕ) (marks : List Bool) (i : ℕ) → get_or marks i false ≡ false → is_lowest k marks i ≡ false
not_marked k marks i down = rw down refl

pub enough : (k : ℕ) (marks : List Bool) (i : ℕ) → k ≤ marked_below marks i → is_lowest k marks i ≡ false
enough k marks i many = rw (le-ltb (marked_below marks i) k many) (and_false (get_or marks i false))

pub marked_more : (marks : List Bool) (i : ℕ) → get_or marks i false ≡ true → marked_below marks (i + 1) ≡ marked_below marks i + 1
marked_more marks i marked = rw (add-one i) (rw marked refl)

pub marked_skip : (marks : List Bool) (i : ℕ) → get_or marks i false ≡ false → marked_below marks (i + 1) ≡ marked_below marks i
marked_skip marks i down = rw (add-one i) (rw down refl)

filter_same : (f g : ℕ → Bool) (xs : List ℕ) → ((x : ℕ) → f x ≡ g x) → filter f xs ≡ filter g xs
filter_same f g [] same = refl
filter_same f g (x ∷ xs) same = ap₂ (λ (t : Bool) (ys : List ℕ). cond t (x ∷ ys) ys) (same x) (filter_same f g xs same)

one_if : (t : Bool) (m : ℕ) → length (cond t (m ∷ []) []) ≡ cond t 1 0
one_if true m = refl
one_if false m = refl

both : (marked : Bool) (n k m : ℕ) → m ≡ min k n → m + cond (marked && nat_lt n k) 1 0 ≡ min k (cond marked (n + 1) n)
both true n k m e = elim (cases_lt n k) [
  | inl few ↦ rw (lt-ltb n k few) (omega arith)
  | inr many ↦ rw (le-ltb n k many) (omega arith)
]
both false n k m e = omega arith

source_count : (k : ℕ) (marks : List Bool) (m : ℕ) → length (filter (is_lowest k marks) (range_with_len 0 m)) ≡ min k (marked_below marks m)
source_count k marks zero = omega arith
source_count k marks (suc m) =
    let src = is_lowest k marks in
    let at : suc m ≡ m + 1 = omega arith in
    let range = ap (range_with_len 0) at ∙ range_more m in
    ap (λ (xs : List ℕ). length (filter src xs)) range
    ∙ ap (λ (xs : List ℕ). length xs) (filter-append src (range_with_len 0 m) (m ∷ []))
    ∙ length-append (filter src (range_with_len 0 m)) (cond (src m) (m ∷ []) [])
    ∙ ap (λ (n : ℕ). length (filter src (range_with_len 0 m)) + n) (one_if (src m) m)
    ∙ both (get_or marks m false) (marked_below marks m) k (length (filter src (range_with_len 0 m))) (source_count k marks m)

-- there are k of them where k columns are marked
pub sources_count : (k : ℕ) (marks : List Bool) (sources : ℕ) → k ≤ marked_below marks (length marks) → sources < 2 ^ length marks
    → ((j : ℕ) → has_column sources j ≡ is_lowest k marks j) → count_ones sources ≡ k
sources_count k marks sources many small bits =
    let n = source_count k marks (length marks) in
    let e : min k (marked_below marks (length marks)) ≡ k = omega arith in
    sym (counted_ones (length marks) sources small)
    ∙ ap (λ (xs : List ℕ). length xs) (filter_same (has_column sources) (is_lowest k marks) (range_with_len 0 (length marks)) bits)
    ∙ n ∙ e

pub marked_less : (marks : List Bool) (i : ℕ) → marked_below marks i ≤ marked_below marks (i + 1)
marked_less marks i = rw (add-one i) (more (get_or marks i false) (marked_below marks i))
  where
    more : (t : Bool) (n : ℕ) → n ≤ cond t (n + 1) n
    more true n = omega arith
    more false n = omega arith

pub bound_skip : (sources i : ℕ) → sources < 2 ^ i → sources < 2 ^ (i + 1)
bound_skip sources i small = let p = pow-suc 2 i in rw (add-one i) (omega (arith, p))
