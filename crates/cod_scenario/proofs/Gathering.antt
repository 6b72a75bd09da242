-- Lines gathered one after another.
use Rattle.std.proofs.Common.{◌≡◌, ◌+◌, List, [], ◌∷◌, ◌++◌, length, refl, length-append}
use Rattle.std.proofs.lemmas.List.Sums.{fold-append}
use Rattle.cod_scenario.specs.declared.said.Said.{Said}
use Rattle.cod_scenario.specs.Lines.{with_line, body_of, no_body}

pub length_more : {A : Type 0} (xs : List A) (x : A) → length (xs ++ x ∷ []) ≡ length xs + 1
length_more xs x = length-append xs (x ∷ [])

pub body_more : (lines : List Said) (s : Said) → body_of (lines ++ s ∷ []) ≡ with_line (body_of lines) s
unfolding body_of
body_more lines s = fold-append with_line no_body lines (s ∷ [])

pub body_none : body_of [] ≡ no_body
unfolding body_of
body_none = refl
