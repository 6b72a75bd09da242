-- The lines of a text that was written line by line.
use Rattle.std.proofs.Common.{◌≡◌, ℕ, ◌-◌, Bool, true, false, List, [], ◌∷◌, ◌++◌, length, get_or, refl, sym, ap, ◌∙◌, arith, append_assoc}
use Rattle.std.specs.Prelude.{nat_eq, nat_le, ◌&&◌, slice_index}
use Rattle.std.specs.List.{slice_split, All, AllByRecursion, list_all, flat_map}
use Rattle.std.specs.Str.Lines.{strip_carriage_return}
use Rattle.std.proofs.lemmas.List.Splits.{slice_split_at, length-slice_split}
use Rattle.std.proofs.lemmas.List.Sums.{AllPass-from_list_all}
use Rattle.std.proofs.lemmas.List.Folds.{list_all-append}
use Rattle.std.proofs.lemmas.Bool.{and_parts}
use Rattle.std.proofs.lemmas.Bool.Decides.{nat_tests}
use Rattle.cod_words.specs.Words.{lines_of, but_empty_last, is_not_empty}
use Rattle.cod_words.proofs.FirstLines.{onto_lines}
use Rattle.cod_words.proofs.Round.{IsWord}
use Rattle.cod_scenario.specs.Judge.{is_plain_byte}
use Rattle.cod_script.specs.Text.{words_text, line_text}

-- ---- the bytes of words and lines

abbrev pub is_clear : ℕ → Bool
is_clear c = nat_le 33 c && nat_le c 126

-- a word of a line
pub record IsClear (w : List ℕ) : Type 0 where
  pub some : is_not_empty w ≡ true
  pub clear : list_all is_clear w ≡ true

clear_is_plain : (c : ℕ) → is_clear c ≡ true → is_plain_byte c ≡ true
clear_is_plain c e = grind (arith, nat_tests, e)

clear_no_space : (c : ℕ) → is_clear c ≡ true → nat_eq c 32 ≡ false
clear_no_space c e = grind (arith, nat_tests, e)

plain_no_end : (c : ℕ) → is_plain_byte c ≡ true → nat_eq c 10 ≡ false
plain_no_end c e = grind (arith, nat_tests, e)

plain_no_return : (c : ℕ) → is_plain_byte c ≡ true → nat_eq c 13 ≡ false
plain_no_return c e = grind (arith, nat_tests, e)

all_clear_plain : (w : List ℕ) → list_all is_clear w ≡ true → list_all is_plain_byte w ≡ true
all_clear_plain [] e = refl
all_clear_plain (c ∷ w) e =
    let b = and_parts (is_clear c) (list_all is_clear w) e in rw (clear_is_plain c b.0, all_clear_plain w b.1) refl

pub is_word : (w : List ℕ) → IsClear w → IsWord w
is_word w i = record { some = i.some; plain = λ k d lt. clear_no_space (get_or w k d) (AllPass-from_list_all is_clear w i.clear k d lt) }

pub are_words : (ws : List (List ℕ)) → AllByRecursion IsClear ws → AllByRecursion IsWord ws
are_words [] all = tt
are_words (w ∷ ws) all = (is_word w all.0, are_words ws all.1)

-- a line by its words
abbrev pub line_of : List ℕ → List (List ℕ) → List ℕ
line_of first ws = first ++ flat_map (λ v. 32 ∷ v) ws

plain_words : (ws : List (List ℕ)) → AllByRecursion IsClear ws → list_all is_plain_byte (flat_map (λ v. 32 ∷ v) ws) ≡ true
plain_words [] all = refl
plain_words (w ∷ ws) all = rw (list_all-append is_plain_byte w (flat_map (λ v. 32 ∷ v) ws), all_clear_plain w all.0.clear) (plain_words ws all.1)

pub plain_line : (first : List ℕ) (ws : List (List ℕ)) → IsClear first → AllByRecursion IsClear ws → list_all is_plain_byte (line_of first ws) ≡ true
plain_line first ws i all = rw (list_all-append is_plain_byte first (flat_map (λ v. 32 ∷ v) ws), all_clear_plain first i.clear) (plain_words ws all)

stripped : (l : List ℕ) (b : Bool) → nat_eq (slice_index l (length l - 1)) 13 ≡ b → b ≡ false → strip_carriage_return l ≡ l
stripped l b s e = rw (s, e) refl

pub no_return : (l : List ℕ) → list_all is_plain_byte l ≡ true → strip_carriage_return l ≡ l
no_return [] e = refl
no_return (c ∷ cs) e =
    let at = AllPass-from_list_all is_plain_byte (c ∷ cs) e (length (c ∷ cs) - 1) 0 (omega arith) in
    stripped (c ∷ cs) _ refl (plain_no_return _ at)

-- ---- the first line

pub first_line : (line rest : List ℕ) → list_all is_plain_byte line ≡ true → lines_of (line ++ 10 ∷ rest) ≡ line ∷ lines_of rest
first_line line rest plain =
    let none : All (λ b. nat_eq b 10 ≡ false) line = λ k d lt. plain_no_end (get_or line k d) (AllPass-from_list_all is_plain_byte line plain k d lt) in
    ap but_empty_last (slice_split_at (λ b. nat_eq b 10) line 10 rest none refl)
    ∙ onto_lines line (slice_split (λ b. nat_eq b 10) rest) (omega (arith, length-slice_split (λ b. nat_eq b 10) rest))

words_text_is : (ws : List (List ℕ)) (rest : List ℕ) → words_text ws ++ rest ≡ flat_map (λ v. 32 ∷ v) ws ++ 10 ∷ rest
words_text_is [] rest = refl
words_text_is (w ∷ ws) rest =
    ap (λ (l : List ℕ). 32 ∷ l) (append_assoc w (words_text ws) rest ∙ (ap (λ l. w ++ l) (words_text_is ws rest) ∙ sym (append_assoc w (flat_map (λ v. 32 ∷ v) ws) (10 ∷ rest))))

pub line_text_is : (first : List ℕ) (ws : List (List ℕ)) (rest : List ℕ) → line_text first ws ++ rest ≡ line_of first ws ++ 10 ∷ rest
line_text_is first ws rest =
    append_assoc first (words_text ws) rest ∙ (ap (λ l. first ++ l) (words_text_is ws rest) ∙ sym (append_assoc first (flat_map (λ v. 32 ∷ v) ws) (10 ∷ rest)))
