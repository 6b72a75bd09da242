-- The number that digits write, one digit after the other.
use Rattle.std.proofs.Common.{◌≡◌, ℕ, zero, suc, ◌+◌, ◌-◌, ◌*◌, ◌^◌, ◌<◌, ◌≤◌, true, List, length, get_or, take, refl, sym, ◌∙◌, arith, add-one}
use Rattle.std.proofs.Math.Nat.{pow-suc}
use Rattle.std.specs.List.{list_all}
use Rattle.std.specs.Str.Parse.{digits_value}
use Rattle.std.specs.Char.{digit_value}
use Rattle.std.proofs.lemmas.Int.Digits.{digits_value_more}
use Rattle.std.proofs.lemmas.List.Folds.{list_all_more}
use Rattle.cod_words.specs.Words.{is_digit}

-- ten to the power i is at most ten to the power j
pub ten_up : (i j k : ℕ) → i + k ≡ j → 10 ^ i ≤ 10 ^ j
ten_up i j zero e = let s : i ≡ j = omega (arith, e) in rw s (omega arith)
ten_up i zero (suc k) e = absurd (omega (arith, e))
ten_up i (suc j) (suc k) e =
    let h : 10 ^ i ≤ 10 ^ j = ten_up i j k (omega (arith, e)) in
    let p = pow-suc 10 j in
    omega (arith, h, p)

-- what has been read of a number
pub record IsSoFar (w : List ℕ) (i value : ℕ) : Type 0 where
  pub digits : list_all is_digit (take i w) ≡ true
  pub value_is : value ≡ digits_value 10 (take i w)
  pub small : value < 10 ^ i

pub so_far_fits : (w : List ℕ) (i value : ℕ) → i < 10 → IsSoFar w i value → value < 1000000000
so_far_fits w i value h s =
    let p : 10 ^ i ≤ 10 ^ 9 = ten_up i 9 (9 - i) (omega (arith, h)) in
    let q = s.small in
    omega (arith, p, q)

value_of_digit : (c : ℕ) → 48 ≤ c → c ≤ 57 → digit_value c ≡ c - 48
value_of_digit c low high = grind (arith, low, high)

is_digit_at : (c : ℕ) → 48 ≤ c → c ≤ 57 → is_digit c ≡ true
is_digit_at c low high = grind (arith, low, high)

pub so_far_more : (w : List ℕ) (i value : ℕ) → i < length w → 48 ≤ get_or w i 0 → get_or w i 0 ≤ 57 → IsSoFar w i value
    → IsSoFar w (i + 1) (value * 10 + (get_or w i 0 - 48))
so_far_more w i value h low high s = record {
  digits = list_all_more is_digit w i 0 h ∙ rw (s.digits, is_digit_at (get_or w i 0) low high) refl;
  value_is = rw (digits_value_more 10 w i h, value_of_digit (get_or w i 0) low high, sym s.value_is) refl;
  small = let p : 10 ^ (i + 1) ≡ 10 ^ i * 10 = rw add-one (pow-suc 10 i) in let q = s.small in omega (arith, p, q, high);
}
