-- What is written of a word is read again.
use Rattle.std.proofs.Common.{◌≡◌, ℕ, suc, ◌+◌, ◌<◌, ◌≤◌, ◌^◌, Bool, true, false, List, [], ◌∷◌, ◌++◌, length, get_or, refl, sym, ◌∙◌, arith, Ok, map, length-append}
use Rattle.std.specs.Prelude.{nat_le, nat_lt, ◌&&◌, slice_index, slice_index_or, decimal}
use Rattle.std.specs.List.{All, AllByRecursion, list_all, list_any, position_or_len}
use Rattle.std.specs.Str.{bytes_eq}
use Rattle.std.specs.Str.Parse.{AllDigits, digits_value}
use Rattle.std.proofs.lemmas.Slice.Eq.{bytes_eq-Decides}
use Rattle.std.proofs.lemmas.List.Sums.{position_or_len_is}
use Rattle.std.proofs.lemmas.List.Folds.{list_any_none}
use Rattle.std.proofs.lemmas.List.{get_or_append_left, get_or_default}
use Rattle.std.proofs.Math.Seq.{get_or-append_seam}
use Rattle.std.proofs.lemmas.Bool.{le-leb, lt-ltb, and_parts}
use Rattle.std.proofs.lemmas.Bool.Decides.{nat_tests}
use Rattle.std.proofs.lemmas.Str.Parse.{IsNumeralModel, digit_from_value}
use Rattle.std.proofs.lemmas.Fmt.{digits_decimal, decimal_nonempty}
use Rattle.cod_words.specs.Words.{is_name, is_name_byte, is_letter}
use Rattle.cod_words.proofs.Round.{number_again}
use Rattle.cod_scenario.specs.Judge.{number, field, known, each_known, node, new_name}
use Rattle.cod_script.specs.Sound.{AllDiffer}
use Rattle.cod_canonical.proofs.Texts.{IsClear, is_clear}

-- ---- numbers

own : IsNumeralModel (AllDigits 10) (digits_value 10)
own = record { to = λ ds d. d; from = λ ds d. d; same = λ ds d. refl }

digits_clear : (ds : List ℕ) → AllDigits 10 ds → list_all is_clear ds ≡ true
digits_clear [] d = refl
digits_clear (c ∷ cs) d = let r = digit_from_value c d.0 in let p : is_clear c ≡ true = grind (arith, nat_tests, r) in rw p (digits_clear cs d.1)

pub decimal_is_clear : (n : ℕ) → n < 2 ^ 32 → IsClear (decimal n)
decimal_is_clear n h =
    let wide : n < 2 ^ 64 = omega (arith, h) in
    record { some = lt-ltb 0 (length (decimal n)) (decimal_nonempty n wide); clear = digits_clear (decimal n) (digits_decimal own n wide) }

pub number_back : (n : ℕ) → n < 2 ^ 32 → number (decimal n) ≡ Ok n
unfolding number
number_back n h = rw (number_again n h) refl

pub field_back : (low high n : ℕ) → low ≤ n → n ≤ high → n < 2 ^ 32 → field low high (decimal n) ≡ Ok n
unfolding field
field_back low high n a b h = rw (number_back n h, le-leb low n a, le-leb n high b) refl

pub node_back : (nodes n : ℕ) → n < nodes → n < 2 ^ 32 → node nodes (decimal n) ≡ Ok n
unfolding node
node_back nodes n a h = rw (number_back n h, lt-ltb n nodes a) refl

-- ---- names

name_byte_clear : (c : ℕ) → is_name_byte c ≡ true → is_clear c ≡ true
name_byte_clear c e = grind (arith, nat_tests, e)

name_bytes_clear : (w : List ℕ) → list_all is_name_byte w ≡ true → list_all is_clear w ≡ true
name_bytes_clear [] e = refl
name_bytes_clear (c ∷ w) e = let b = and_parts (is_name_byte c) (list_all is_name_byte w) e in rw (name_byte_clear c b.0, name_bytes_clear w b.1) refl

longer_than_none : (n : ℕ) → nat_le 1 n ≡ true → nat_lt 0 n ≡ true
longer_than_none n e = grind (arith, nat_tests, e)

pub name_is_clear : (w : List ℕ) → is_name w ≡ true → IsClear w
name_is_clear w e =
    let a = and_parts (nat_le 1 (length w) && nat_le (length w) 16 && is_letter (slice_index w 0)) (list_all is_name_byte w) e in
    let b = and_parts (nat_le 1 (length w) && nat_le (length w) 16) (is_letter (slice_index w 0)) a.0 in
    let c = and_parts (nat_le 1 (length w)) (nat_le (length w) 16) b.0 in
    record { some = longer_than_none (length w) c.0; clear = name_bytes_clear w a.1 }

pub same_bytes : (w : List ℕ) → bytes_eq w w ≡ true
same_bytes w = (bytes_eq-Decides w w).1 refl

pub other_bytes : (b : Bool) (w v : List ℕ) → bytes_eq w v ≡ b → (w ≡ v → ⊥) → bytes_eq w v ≡ false
other_bytes true w v s n = absurd (n ((bytes_eq-Decides w v).0 s))
other_bytes false w v s n = s

pub known_back : (names : List (List ℕ)) (i : ℕ) → AllDiffer names → All (λ name. is_name name ≡ true) names → i < length names
    → known names (slice_index_or names i []) ≡ Ok i
unfolding known
known_back names i differ good lt =
    let w : List ℕ = slice_index_or names i [] in
    let at : position_or_len (bytes_eq w) names ≡ i =
    position_or_len_is (bytes_eq w) names i [] (omega (arith, lt))
    (λ k below. other_bytes _ w (get_or names k []) refl (λ e. let same : i ≡ k = differ i k lt (omega (arith, below, lt)) e in omega (arith, same, below)))
    (λ _. same_bytes w) in
    let name : is_name w ≡ true = good i [] lt in
    rw (name, at, lt-ltb i (length names) lt) refl

pub each_back : (names : List (List ℕ)) (turns : List ℕ) → AllDiffer names → All (λ name. is_name name ≡ true) names → AllByRecursion (λ i. i < length names) turns
    → each_known names (map (λ i. slice_index_or names i []) turns) ≡ Ok turns
unfolding each_known
each_back names [] differ good all = refl
each_back names (t ∷ turns) differ good all = rw (known_back names t differ good all.0, each_back names turns differ good all.1) refl

-- a name that is not among the names before it
pub new_back : (before after : List (List ℕ)) (name : List ℕ) → AllDiffer (before ++ name ∷ after) → is_name name ≡ true
    → new_name before name ≡ Ok tt
unfolding new_name
new_back before after name differ good =
    let none : list_any (bytes_eq name) before ≡ false = list_any_none (bytes_eq name) before (λ k d lt. other_bytes _ name (get_or before k d) refl (λ e. apart before after name differ k d lt e)) in
    rw (good, none) refl where
      apart : (before after : List (List ℕ)) (name : List ℕ) → AllDiffer (before ++ name ∷ after) → (k : ℕ) (d : List ℕ) → k < length before → name ≡ get_or before k d → ⊥
      apart before after name differ k d lt e =
          let n : length (before ++ name ∷ after) ≡ length before + suc (length after) = length-append before (name ∷ after) in
          let same : k ≡ length before = differ k (length before) (omega (arith, lt, n)) (omega (arith, n))
          (get_or_append_left before (name ∷ after) [] k lt ∙ (get_or_default before k [] d lt ∙ (sym e ∙ sym (get_or-append_seam before name after [])))) in
          omega (arith, same, lt)
