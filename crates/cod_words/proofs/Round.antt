-- The words of a line that was written are the words that were written, and a number that was written is read again.
use Rattle.std.proofs.Common.{◌≡◌, ℕ, ◌<◌, ◌≤◌, ◌^◌, true, false, List, [], ◌∷◌, ◌++◌, length, refl, ap, arith, append-nil}
use Rattle.std.specs.Prelude.{nat_eq}
use Rattle.std.specs.List.{All, AllByRecursion, list_all, flat_map}
use Rattle.std.proofs.lemmas.List.Splits.{slice_split_none, slice_split_at}
use Rattle.std.specs.Prelude.{decimal, Some}
use Rattle.std.specs.Str.Parse.{AllDigits, digits_value}
use Rattle.std.proofs.lemmas.Bool.{le-leb}
use Rattle.std.proofs.lemmas.Str.Parse.{IsNumeralModel, digit_from_value}
use Rattle.std.proofs.lemmas.Fmt.{digits_decimal, digits_value-decimal, length-decimal-le, decimal_nonempty}
use Rattle.cod_words.specs.Words.{words_of, is_not_empty, is_digit, is_number, number_of}

pub record IsWord (w : List ℕ) : Type 0 where
  pub some : is_not_empty w ≡ true
  pub plain : All (λ b. nat_eq b 32 ≡ false) w

pub words_of_line : (w : List ℕ) (ws : List (List ℕ)) → IsWord w → AllByRecursion IsWord ws → words_of (w ++ flat_map (λ v. 32 ∷ v) ws) ≡ w ∷ ws
words_of_line w [] i all = rw (append-nil w, slice_split_none (λ b. nat_eq b 32) w i.plain, i.some) refl
words_of_line w (v ∷ vs) i all =
    rw (slice_split_at (λ b. nat_eq b 32) w 32 (v ++ flat_map (λ u. 32 ∷ u) vs) i.plain refl, i.some) (ap (λ l. w ∷ l) (words_of_line v vs all.0 all.1))

own : IsNumeralModel (AllDigits 10) (digits_value 10)
own = record { to = λ ds d. d; from = λ ds d. d; same = λ ds d. refl }

digits_pass : (ds : List ℕ) → AllDigits 10 ds → list_all is_digit ds ≡ true
digits_pass [] d = refl
digits_pass (c ∷ cs) d = let r = digit_from_value c d.0 in let p : is_digit c ≡ true = grind (arith, r) in rw p (digits_pass cs d.1)

pub number_again : (n : ℕ) → n < 2 ^ 32 → number_of (decimal n) ≡ Some n
number_again n h =
    let wide : n < 2 ^ 64 = omega (arith, h) in
    let v : digits_value 10 (decimal n) ≡ n = digits_value-decimal own n wide in
    let long : length (decimal n) ≤ 10 = length-decimal-le 10 n (omega arith) (omega (arith, h)) wide in
    let t : is_number (decimal n) ≡ true = rw (
      le-leb 1 (length (decimal n)) (decimal_nonempty n wide),
      le-leb (length (decimal n)) 10 long,
      digits_pass (decimal n) (digits_decimal own n wide),
      v,
      le-leb n 4294967295 (omega (arith, h)),
    ) refl in
    rw (t, v) refl
