-- The bytes that a word of data gives are read again from the word that is written of them.
use Rattle.std.proofs.Common.{◌≡◌, ℕ, zero, suc, ◌*◌, ◌/◌, ◌%◌, ◌<◌, ◌≤◌, Bool, true, false, List, [], ◌∷◌, length, replicate, refl, sym, ap, ◌∙◌, arith, Ok, Some}
use Rattle.std.specs.Prelude.{nat_eq, nat_le, ◌&&◌, slice_index, codes, decimal}
use Rattle.std.specs.List.{list_all}
use Rattle.std.proofs.lemmas.Bool.{le-leb, lt-ltb, le-ltb, and_parts, eqb-true}
use Rattle.std.proofs.lemmas.Bool.Decides.{nat_tests}
use Rattle.hex.specs.Hex.{IsBytes, decode_of, encode_lower, encode_with, lower_digits, hex_digit_value}
use Rattle.hex.proofs.HexLemmas.{IsDigits-lower_digits, decode_of-encode_lower, length-encode_with}
use Rattle.cod_words.specs.Words.{data_of}
use Rattle.cod_words.proofs.Round.{number_again}
use Rattle.cod_print.specs.Pieces.{data_word, is_repeated, hex_word}
use Rattle.cod_scenario.specs.Judge as judge
use Rattle.cod_canonical.proofs.Texts.{IsClear, is_clear}
use Rattle.cod_canonical.proofs.Fields.{other_bytes, decimal_is_clear}

-- what a word of data can give
pub record IsData (bytes : List ℕ) : Type 0 where
  pub each : IsBytes bytes
  pub few : length bytes ≤ 16777216

-- ---- one byte many times

all_one : (b : ℕ) (bytes : List ℕ) → list_all (λ c. nat_eq c b) bytes ≡ true → replicate (length bytes) b ≡ bytes
all_one b [] e = refl
all_one b (c ∷ bytes) e =
    let p = and_parts (nat_eq c b) (list_all (λ c. nat_eq c b) bytes) e in
    let same : b ≡ c = sym (eqb-true c b p.0) in
    ap (λ l. b ∷ l) (all_one b bytes p.1) ∙ ap (λ x. x ∷ bytes) same

two_digits : (b : ℕ) → encode_lower (b ∷ []) ≡ slice_index lower_digits (b / 16) ∷ slice_index lower_digits (b % 16) ∷ []
unfolding encode_with
two_digits b = refl

repeated_of : (w : List ℕ) (b n : ℕ) → w ≡ slice_index lower_digits (b / 16) ∷ slice_index lower_digits (b % 16) ∷ 42 ∷ decimal n
    → decode_of (encode_lower (b ∷ [])) ≡ Ok (b ∷ []) → n ≤ 16777216 → data_of w ≡ Ok (replicate n b)
repeated_of w b n s d le =
    let one : decode_of (slice_index lower_digits (b / 16) ∷ slice_index lower_digits (b % 16) ∷ []) ≡ Ok (b ∷ []) = ap decode_of (sym (two_digits b)) ∙ d in
    rw s (rw (
      other_bytes _ (slice_index lower_digits (b / 16) ∷ slice_index lower_digits (b % 16) ∷ 42 ∷ decimal n) (codes "-") refl (λ e. let l = ap length e in absurd (omega (arith, l))),
      le-leb 3 (suc (suc (suc (length (decimal n))))) (omega arith),
      one,
      number_again n (omega (arith, le)),
      le-ltb 16777216 n le,
    ) refl)

repeated_back : (bytes : List ℕ) → IsData bytes → is_repeated bytes ≡ true → data_of (data_word bytes) ≡ Ok bytes
repeated_back bytes i e =
    let b : ℕ = slice_index bytes 0 in
    let parts = and_parts (nat_le 2 (length bytes)) (list_all (λ c. nat_eq c b) bytes) e in
    let word : data_word bytes ≡ slice_index lower_digits (b / 16) ∷ slice_index lower_digits (b % 16) ∷ 42 ∷ decimal (length bytes) = rw (e, two_digits b) refl in
    let one : IsBytes (b ∷ []) = one_byte b (i.each 0) in
    repeated_of (data_word bytes) b (length bytes) word (decode_of-encode_lower (b ∷ []) one) i.few ∙ ap (λ (l : List ℕ). Ok l) (all_one b bytes parts.1) where
      one_byte : (b : ℕ) → b < 256 → IsBytes (b ∷ [])
      one_byte b h zero = h
      one_byte b h (suc k) = omega arith

-- ---- two digits for each byte

digit_is_clear : (c d : ℕ) → hex_digit_value c ≡ Some d → is_clear c ≡ true
digit_is_clear c d e = grind (arith, nat_tests, e)

digit_no_star : (c d : ℕ) → hex_digit_value c ≡ Some d → nat_eq c 42 ≡ false
digit_no_star c d e = grind (arith, nat_tests, e)

third_no_star : (b : ℕ) (bs : List ℕ) → IsBytes bs → (nat_le 3 (length (encode_lower (b ∷ bs))) && nat_eq (slice_index (encode_lower (b ∷ bs)) 2) 42) ≡ false
unfolding encode_with
third_no_star b [] i = refl
third_no_star b (c ∷ cs) i =
    let small : c < 256 = i 0 in
    rw (digit_no_star (slice_index lower_digits (c / 16)) (c / 16) (IsDigits-lower_digits (c / 16) (omega (arith, small)))) (ends _) where
      ends : (b : Bool) → (b && false) ≡ false
      ends true = refl
      ends false = refl

plain_back : (b : ℕ) (bs : List ℕ) → IsBytes (b ∷ bs) → data_of (encode_lower (b ∷ bs)) ≡ Ok (b ∷ bs)
plain_back b bs i =
    let long : length (encode_lower (b ∷ bs)) ≡ 2 * suc (length bs) = length-encode_with lower_digits (b ∷ bs) in
    rw (
      other_bytes _ (encode_lower (b ∷ bs)) (codes "-") refl (λ e. let l = ap length e in absurd (omega (arith, l, long))),
      third_no_star b bs (λ k. i (suc k)),
      decode_of-encode_lower (b ∷ bs) i,
    ) refl

hex_back : (bytes : List ℕ) → IsData bytes → data_of (hex_word bytes) ≡ Ok bytes
hex_back [] i = refl
hex_back (b ∷ bs) i = plain_back b bs i.each

by_repeat : (r : Bool) (bytes : List ℕ) → is_repeated bytes ≡ r → IsData bytes → data_of (data_word bytes) ≡ Ok bytes
by_repeat true bytes e i = repeated_back bytes i e
by_repeat false bytes e i = rw e (hex_back bytes i)

pub data_back : (bytes : List ℕ) → IsData bytes → judge.data_word (data_word bytes) ≡ Ok bytes
unfolding judge.data_word
data_back bytes i = rw (by_repeat _ bytes refl i) refl

-- ---- the word has no space

digits_clear : (bytes : List ℕ) → IsBytes bytes → list_all is_clear (encode_lower bytes) ≡ true
unfolding encode_with
digits_clear [] i = refl
digits_clear (b ∷ bs) i =
    let small : b < 256 = i 0 in
    rw (
      digit_is_clear (slice_index lower_digits (b / 16)) (b / 16) (IsDigits-lower_digits (b / 16) (omega (arith, small))),
      digit_is_clear (slice_index lower_digits (b % 16)) (b % 16) (IsDigits-lower_digits (b % 16) (omega (arith, small))),
    ) (digits_clear bs (λ k. i (suc k)))

clear_by_repeat : (r : Bool) (bytes : List ℕ) → is_repeated bytes ≡ r → IsData bytes → IsClear (data_word bytes)
clear_by_repeat true bytes e i =
    let b : ℕ = slice_index bytes 0 in
    let few = i.few in
    let small : b < 256 = i.each 0 in
    let word : data_word bytes ≡ slice_index lower_digits (b / 16) ∷ slice_index lower_digits (b % 16) ∷ 42 ∷ decimal (length bytes) = rw (e, two_digits b) refl in
    let number = decimal_is_clear (length bytes) (omega (arith, few)) in
    rw word (record {
      some = lt-ltb 0 (suc (suc (suc (length (decimal (length bytes)))))) (omega arith);
      clear = rw (
        digit_is_clear (slice_index lower_digits (b / 16)) (b / 16) (IsDigits-lower_digits (b / 16) (omega (arith, small))),
        digit_is_clear (slice_index lower_digits (b % 16)) (b % 16) (IsDigits-lower_digits (b % 16) (omega (arith, small))),
      ) number.clear;
    })
clear_by_repeat false bytes e i = rw e (hex_clear bytes i) where
  hex_clear : (bytes : List ℕ) → IsData bytes → IsClear (hex_word bytes)
  hex_clear [] i = record { some = refl; clear = refl }
  hex_clear (b ∷ bs) i =
      let long : length (encode_lower (b ∷ bs)) ≡ 2 * suc (length bs) = length-encode_with lower_digits (b ∷ bs) in
      record { some = lt-ltb 0 (length (encode_lower (b ∷ bs))) (omega (arith, long)); clear = digits_clear (b ∷ bs) i.each }

pub data_is_clear : (bytes : List ℕ) → IsData bytes → IsClear (data_word bytes)
data_is_clear bytes i = clear_by_repeat _ bytes refl i
