-- A text that was taken, and then brought to where it goes.
use Rattle.std.proofs.Common.{◌≡◌, ℕ, ◌≤◌, List, [], ◌++◌, Option, sym, ◌∙◌, inl, inr, append-nil}
use Rattle.cod_types.proofs.Faults.{rose_before}
use Rattle.cod_print.specs.Puts.{TakesFront}
use Rattle.cod_shell.specs.Taking.{TakesAll, TakesLine}

-- a text that was taken whole is a front of itself
pub whole_is_front : (taken taken' : Option (List ℕ)) (text : List ℕ) → TakesAll taken taken' text → TakesFront taken taken' text
whole_is_front taken taken' text all = (text, [], sym (append-nil text), all)

-- a front that was taken, where nothing more was
pub front_later : (taken middle taken' : Option (List ℕ)) (text : List ℕ) → taken' ≡ middle → TakesFront taken middle text → TakesFront taken taken' text
front_later taken middle taken' text same front = (front.0, front.1, front.2, same ∙ front.3)

-- a line that was taken, where further calls of the sink may have failed
pub line_later : (taken middle taken' : Option (List ℕ)) (before now later : ℕ) (line : List ℕ) → taken' ≡ middle → now ≤ later
    → TakesLine taken middle before now line → TakesLine taken taken' before later line
line_later taken middle taken' before now later line same more (inl whole) = inl (same ∙ whole)
line_later taken middle taken' before now later line same more (inr (front, rose)) =
    inr ((front.0, front.1, front.2, same ∙ front.3), rose_before before now later rose more)
