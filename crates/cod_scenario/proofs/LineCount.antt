-- A text has at most one line more than it has bytes.
use Rattle.std.proofs.Common.{◌≡◌, ℕ, zero, suc, [], ◌∷◌, ◌+◌, ◌-◌, ◌≤◌, Bool, true, false, cond, List, length, take, arith, refl, nat_eq, Ok, Err}
use Rattle.std.specs.Prelude.{count_by}
use Rattle.std.specs.List.{slice_split}
use Rattle.std.proofs.lemmas.List.Splits.{length-slice_split}
use Rattle.std.proofs.lemmas.List.Sums.{count_by-le-length}
use Rattle.std.proofs.lemmas.Bool.{le-ltb}
use Rattle.cod_scenario.specs.declared.said.Said.{Said}
use Rattle.cod_scenario.specs.declared.refusal.Refusal.TheVariants.{NoEnd}
use Rattle.cod_scenario.specs.declared.refusal.Refusal.{Refusal}
use Rattle.cod_scenario.specs.Judge.{Heard, text_says, lines_say, is_end, last_of}
use Rattle.cod_scenario.specs.Lines.{script_of}
use Rattle.cod_scenario.specs.Reads.{reads, finished, script_or}
use Rattle.cod_words.specs.Words.{lines_of, is_last_empty}

length-take-le-self : {A : Type 0} (n : ℕ) (xs : List A) → length (take n xs) ≤ length xs
length-take-le-self zero xs = omega arith
length-take-le-self (suc n) [] = omega arith
length-take-le-self (suc n) (x ∷ xs) = let h = length-take-le-self n xs in omega (arith, h)

shorter : (b : Bool) (n : ℕ) (ps : List (List ℕ)) → length (cond b (take n ps) ps) ≤ length ps
shorter true n ps = length-take-le-self n ps
shorter false n ps = omega arith

pub few_lines : (text : List ℕ) → length (lines_of text) ≤ length text + 1
few_lines text =
    let ps = slice_split (λ b. nat_eq b 10) text in
    let a = shorter (is_last_empty ps) (length ps - 1) ps in
    let e = length-slice_split (λ b. nat_eq b 10) text in
    let d : count_by (λ b. nat_eq b 10) text ≤ length text = count_by-le-length (λ b. nat_eq b 10) text in
    omega (arith, a, e, d)

ended : (b : Bool) (said : List Said) (e : ℕ × Refusal) → script_or (cond b (Ok said) (Err e)) ≡ cond b (Ok (script_of said)) (Err e)
ended true said e = refl
ended false said e = refl

-- what a text says is what its lines say, to the end
pub reads_lines : (text : List ℕ) (h : Heard) → length text ≤ 16777216 → lines_say [] 1 (lines_of text) ≡ Ok h.said → h.lines ≡ length (lines_of text)
    → reads text ≡ finished h
unfolding text_says
reads_lines text h le e n = rw (le-ltb 16777216 (length text) le, e, ← n) (ended (is_end (last_of h.said)) h.said (h.lines + 1, NoEnd))
