-- Names of a letter and a number.
use Rattle.std.proofs.Common.{◌≡◌, ℕ, ◌+◌, ◌<◌, ◌^◌, Bool, true, get_or, refl, ◌∙◌, subst, arith}
use Rattle.std.specs.Fmt.{digits}
use Rattle.std.specs.List.{range_with_len, list_all}
use Rattle.std.proofs.lemmas.Fmt.{decimal_injective}
use Rattle.std.proofs.lemmas.List.Sums.{AllPass-from_list_all}
use Rattle.std.proofs.lemmas.List.FromFn.{length-range_with_len, get_or-range_with_len}
use Rattle.cod_words.specs.Words.{is_name}
use Rattle.cod_gen.specs.Generated.{name_of}

-- what a test of all numbers below n says of one of them
pub all_below : (p : ℕ → Bool) (n : ℕ) → list_all p (range_with_len 0 n) ≡ true → (i : ℕ) → i < n → p i ≡ true
all_below p n all i lt =
    let g : get_or (range_with_len 0 n) i 0 ≡ i = (let r = get_or-range_with_len 0 n i 0 lt in let z : 0 + i ≡ i = omega arith in r ∙ z) in
    let l = length-range_with_len 0 n in
    subst (λ (k : ℕ). p k ≡ true) g (AllPass-from_list_all p (range_with_len 0 n) all i 0 (omega (arith, l, lt)))

pub segment_name : (i : ℕ) → i < 40 → is_name (name_of 115 i) ≡ true
unfolding digits
segment_name = all_below (λ i. is_name (name_of 115 i)) 40 refl

pub client_name : (i : ℕ) → i < 8 → is_name (name_of 99 i) ≡ true
unfolding digits
client_name = all_below (λ i. is_name (name_of 99 i)) 8 refl

-- different numbers, different names
pub one_name : (letter i j : ℕ) → i < 2 ^ 64 → j < 2 ^ 64 → name_of letter i ≡ name_of letter j → i ≡ j
one_name letter i j li lj e = decimal_injective i j li lj (cc)
