-- The scenario of a text.
use Rattle.std.specs.Prelude.{◌≡◌, ℕ, ◌+◌, if◌then◌else◌, List, Result, Ok, Err}
use Rattle.cod_scenario.specs.declared.refusal.Refusal.{Refusal}
use Rattle.cod_scenario.specs.declared.refusal.Refusal.TheVariants.{NoEnd}
use Rattle.cod_scenario.specs.declared.refusal.ScenarioError.{ScenarioError}
use Rattle.cod_scenario.specs.declared.refusal.ScenarioError.TheVariants.{Refused, OutOfMemory}
use Rattle.cod_scenario.specs.declared.said.Said.{Said}
use Rattle.cod_script.specs.Script.{Script}
use Rattle.cod_scenario.specs.Lines.{script_of}
use Rattle.cod_scenario.specs.Judge.{text_says, Heard, is_end, last_of}

-- the scenario of what was said, where nothing was refused
abbrev pub script_or : Result (List Said) (ℕ × Refusal) → Result Script (ℕ × Refusal)
script_or (Ok lines) = Ok (script_of lines)
script_or (Err e) = Err e

-- the scenario that a text says, or the first line that is refused, with the reason
abbrev pub reads : List ℕ → Result Script (ℕ × Refusal)
reads text = script_or (text_says text)

-- the text is one of this scenario
abbrev pub IsTextOf : List ℕ → Script → Type 0
IsTextOf text p = reads text ≡ Ok p

-- the scenario of the lines that were heard, the last of which has to be `end`
abbrev pub finished : Heard → Result Script (ℕ × Refusal)
finished h = if is_end (last_of h.said) then Ok (script_of h.said) else Err (h.lines + 1, NoEnd)

-- What a function returned is what the definition gives, unless memory ran out.
abbrev pub IsRead : Result Script ScenarioError → Result Script (ℕ × Refusal) → Type 0
IsRead (Ok p) given = given ≡ Ok p
IsRead (Err (Refused line why)) given = given ≡ Err (line, why)
IsRead (Err OutOfMemory) given = Unit {0}
