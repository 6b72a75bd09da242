-- What is read from a canonical text.
use Rattle.std.specs.Prelude.{◌≡◌, ℕ, ◌≤◌, ◌^◌, List, length, map, Ok}
use Rattle.cod_script.specs.declared.line.Line.{Line}
use Rattle.cod_script.specs.Script.{Script, Client}
use Rattle.cod_scenario.specs.Reads.{reads}
use Rattle.cod_script.specs.Text.{canonical_text}

abbrev pub unnumbered_line : Line → Line
unnumbered_line l = record l { line = 0 }

abbrev pub unnumbered_client : Client → Client
unnumbered_client c = record c { lines = map unnumbered_line c.lines }

-- the scenario with each line's number 0
abbrev pub unnumbered : Script → Script
unnumbered p = record p { clients = map unnumbered_client p.clients }

-- what is read from a text is read from its canonical text, but for the numbers of lines
abbrev pub IsReadAgain : Type 0
IsReadAgain =
    (text : List ℕ) (p : Script) → reads text ≡ Ok p → length (canonical_text p) ≤ 2 ^ 24
    → (again : Script) × (reads (canonical_text p) ≡ Ok again) × (unnumbered again ≡ unnumbered p)

-- what is read from a canonical text has that canonical text
abbrev pub IsWrittenAgain : Type 0
IsWrittenAgain = (text : List ℕ) (p again : Script) → reads text ≡ Ok p → reads (canonical_text p) ≡ Ok again → canonical_text again ≡ canonical_text p
