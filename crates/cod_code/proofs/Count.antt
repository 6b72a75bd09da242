-- How many columns a mask has.
use Rattle.std.proofs.Common.{◌≡◌, ℕ, zero, suc, ◌+◌, ◌*◌, ◌/◌, ◌%◌, ◌^◌, ◌<◌, Bool, true, false, cond, nat_eq, refl, sym, ap, ap₂, ◌∙◌, arith, List, ◌∷◌, length, one-add}
use Rattle.std.specs.Prelude.{count_ones}
use lib.Count.{ones}
use Rattle.std.proofs.Math.Nat.{add_comm, pow-suc}
use Rattle.std.specs.List.{range_with_len, filter}
use Rattle.std.proofs.lemmas.Nat.{ones_cat}
use Rattle.std.proofs.lemmas.Nat.Bits.{bit_at-suc, bit_at_lowest}
use Rattle.cod_code.specs.Columns.{columns_of, has_column}

abbrev counted : (sources a m : ℕ) → ℕ
counted sources a m = length (filter (has_column sources) (range_with_len a m))

length_cond : (t : Bool) (a : ℕ) (xs : List ℕ) → length (cond t (a ∷ xs) xs) ≡ cond t 1 0 + length xs
length_cond true a xs = sym (one-add (length xs))
length_cond false a xs = omega arith

shifted : (sources a m : ℕ) → counted sources (a + 1) m ≡ counted (sources / 2) a m
shifted sources a zero = refl
shifted sources a (suc m) =
    let e : a + 1 ≡ suc a = omega arith in
    let bit : has_column sources (a + 1) ≡ has_column (sources / 2) a = ap (λ i. has_column sources i) e ∙ ap (λ b. nat_eq b 1) (bit_at-suc sources a) in
    length_cond (has_column sources (a + 1)) (a + 1) (filter (has_column sources) (range_with_len (a + 1 + 1) m))
    ∙ ap₂ (λ t n. cond t 1 0 + n) bit (shifted sources (a + 1) m)
    ∙ sym (length_cond (has_column (sources / 2) a) a (filter (has_column (sources / 2)) (range_with_len (a + 1) m)))

ones_none : count_ones 0 ≡ 0
unfolding ones
ones_none = refl

one_bit : (r : ℕ) → r < 2 → ◌≡◌ {A = ℕ} (cond (nat_eq r 1) 1 0) (count_ones r)
unfolding ones
one_bit zero h = refl
one_bit (suc zero) h = refl
one_bit (suc (suc r)) h = absurd (omega arith)

lowest : (sources : ℕ) → ◌≡◌ {A = ℕ} (cond (has_column sources 0) 1 0) (count_ones (sources % 2))
lowest sources = ap (λ (b : ℕ). let n : ℕ = cond (nat_eq b 1) 1 0 in n) (bit_at_lowest sources) ∙ one_bit (sources % 2) (omega arith)

pub counted_ones : (m sources : ℕ) → sources < 2 ^ m → counted sources 0 m ≡ count_ones sources
counted_ones zero sources h = let none : 0 ≡ sources = omega arith in sym ones_none ∙ ap count_ones none
counted_ones (suc m) sources h =
    let half : sources / 2 < 2 ^ m = omega (arith, pow-suc 2 m) in
    let whole : sources / 2 * 2 ^ 1 + sources % 2 ≡ sources = omega arith in
    length_cond (has_column sources 0) 0 (filter (has_column sources) (range_with_len (0 + 1) m))
    ∙ ap₂ (λ (x y : ℕ). x + y) (lowest sources) (shifted sources 0 m ∙ counted_ones m (sources / 2) half)
    ∙ add_comm (count_ones (sources % 2)) (count_ones (sources / 2))
    ∙ sym (ones_cat 1 (sources / 2) (sources % 2) (omega arith))
    ∙ ap count_ones whole

pub columns_count : (sources : ℕ) → sources < 2 ^ 16 → length (columns_of sources) ≡ count_ones sources
unfolding columns_of
columns_count sources h = counted_ones 16 sources h
