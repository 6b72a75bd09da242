-- The first line of a text, and the lines behind it.
use Rattle.std.proofs.Common.{◌≡◌, ℕ, ◌+◌, ◌<◌, ◌≤◌, true, false, List, [], ◌∷◌, ◌++◌, length, get_or, take, drop, refl, sym, ap, ◌∙◌, arith, add-one}
use Rattle.std.specs.Prelude.{nat_eq}
use Rattle.std.specs.List.{slice_split, All}
use Rattle.std.proofs.lemmas.List.Splits.{slice_split_none, slice_split_at, length-slice_split}
use Rattle.std.proofs.lemmas.List.Elements.{All-from_get_or}
use Rattle.std.proofs.lemmas.List.{get_or-take, take-append-drop, length-take}
use Rattle.std.proofs.Math.Seq.{drop-cons}
use Rattle.std.proofs.lemmas.Bool.{eqb-true}
use Rattle.cod_words.specs.Words.{lines_of, but_empty_last}

-- a line goes before the lines of at least one piece
pub onto_lines : (line : List ℕ) (pieces : List (List ℕ)) → 1 ≤ length pieces → but_empty_last (line ∷ pieces) ≡ line ∷ but_empty_last pieces
onto_lines line [] some = absurd (omega arith)
onto_lines line (piece ∷ pieces) some = grind arith

pub no_end : (text : List ℕ) → 1 ≤ length text → ((i : ℕ) → i < length text → nat_eq (get_or text i 0) 10 ≡ false) → lines_of text ≡ text ∷ []
no_end text some none =
    rw (slice_split_none (λ b. nat_eq b 10) text (All-from_get_or (λ b. nat_eq b 10 ≡ false) text 0 none)) (one text some) where
      one : (line : List ℕ) → 1 ≤ length line → but_empty_last (line ∷ []) ≡ line ∷ []
      one [] some = absurd (omega arith)
      one (b ∷ bs) some = grind arith

pub first_end : (text : List ℕ) (end : ℕ) → end < length text → nat_eq (get_or text end 0) 10 ≡ true → ((i : ℕ) → i < end → nat_eq (get_or text i 0) 10 ≡ false)
    → lines_of text ≡ take end text ∷ lines_of (drop (end + 1) text)
first_end text end within is none =
    let whole : text ≡ take end text ++ 10 ∷ drop (end + 1) text = sym (ap (λ l. take end text ++ l) (sym (drop_at text end within is)) ∙ take-append-drop end text) in
    let front : All (λ b. nat_eq b 10 ≡ false) (take end text) =
    All-from_get_or (λ b. nat_eq b 10 ≡ false) (take end text) 0 (λ i low. let l : i < end = omega (arith, low, length-take end text) in rw (get_or-take end text i 0 l) (none i l)) in
    let split : slice_split (λ b. nat_eq b 10) text ≡ take end text ∷ slice_split (λ b. nat_eq b 10) (drop (end + 1) text) =
    ap (slice_split (λ b. nat_eq b 10)) whole ∙ slice_split_at (λ b. nat_eq b 10) (take end text) 10 (drop (end + 1) text) front refl in
    ap but_empty_last split ∙ onto_lines (take end text) (slice_split (λ b. nat_eq b 10) (drop (end + 1) text)) (omega (arith, length-slice_split (λ b. nat_eq b 10) (drop (end + 1) text))) where
      drop_at : (text : List ℕ) (end : ℕ) → end < length text → nat_eq (get_or text end 0) 10 ≡ true → drop end text ≡ 10 ∷ drop (end + 1) text
      drop_at text end within is =
          let e : get_or text end 0 ≡ 10 = eqb-true (get_or text end 0) 10 is in
          rw add-one (drop-cons text end 0 within) ∙ ap (λ b. b ∷ drop (end + 1) text) e
