-- How a sink took a text.
use Rattle.std.specs.Prelude.{◌≡◌, ◌⊎◌, ℕ, List, Option}
use Rattle.std.specs.Io.KnownBytes.{append_known}
use Rattle.cod_types.specs.Faults.{Rose}
use Rattle.cod_print.specs.Puts.{TakesFront}

-- the text was taken whole
abbrev pub TakesAll : (taken taken' : Option (List ℕ)) (text : List ℕ) → Type 0
TakesAll taken taken' text = taken' ≡ append_known taken text

-- a line was taken whole, or a front of it where the sink failed
abbrev pub TakesLine : (taken taken' : Option (List ℕ)) (faults faults' : ℕ) (line : List ℕ) → Type 0
TakesLine taken taken' faults faults' line = TakesAll taken taken' line ⊎ (TakesFront taken taken' line × Rose faults faults')
