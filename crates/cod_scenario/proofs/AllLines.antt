-- Lines one after the other.
use Rattle.std.proofs.Common.{◌≡◌, ℕ, ◌+◌, List, [], ◌∷◌, refl, sym, ap, ◌∙◌, Result, Ok, Err}
use Rattle.cod_scenario.specs.declared.said.Said.{Said}
use Rattle.cod_scenario.specs.declared.refusal.Refusal.{Refusal}
use Rattle.cod_scenario.specs.Judge.{line_says, lines_say}

more_lines : (before now : List Said) (n : ℕ) (text : List ℕ) (more : List (List ℕ)) → line_says before n text ≡ Ok now → lines_say before n (text ∷ more) ≡ lines_say now (n + 1) more
unfolding lines_say
more_lines before now n text more e = rw e refl

no_more : (before : List Said) (n : ℕ) (text : List ℕ) (more : List (List ℕ)) (why : Refusal) → line_says before n text ≡ Err why → lines_say before n (text ∷ more) ≡ Err (n, why)
unfolding lines_say
no_more before n text more why e = rw e refl

none_left : (before : List Said) (n : ℕ) → lines_say before n [] ≡ Ok before
unfolding lines_say
none_left before n = refl

pub goes_on : (before now : List Said) (n : ℕ) (text : List ℕ) (rest more : List (List ℕ)) (all : Result (List Said) (ℕ × Refusal))
    → rest ≡ text ∷ more → line_says before n text ≡ Ok now → lines_say before n rest ≡ all → lines_say now (n + 1) more ≡ all
goes_on before now n text rest more all s e h = sym (more_lines before now n text more e) ∙ (ap (lines_say before n) (sym s) ∙ h)

pub fails : (before : List Said) (n : ℕ) (text : List ℕ) (rest more : List (List ℕ)) (why : Refusal) (all : Result (List Said) (ℕ × Refusal))
    → rest ≡ text ∷ more → line_says before n text ≡ Err why → lines_say before n rest ≡ all → all ≡ Err (n, why)
fails before n text rest more why all s e h = sym h ∙ (ap (lines_say before n) s ∙ no_more before n text more why e)

pub is_done : (before : List Said) (n : ℕ) (rest : List (List ℕ)) (all : Result (List Said) (ℕ × Refusal)) → rest ≡ [] → lines_say before n rest ≡ all → all ≡ Ok before
is_done before n rest all s h = sym h ∙ (ap (lines_say before n) s ∙ none_left before n)
