-- The text of a run that has one segment, and that of a scenario whose lines were taken.
use Rattle.std.specs.Prelude.{◌≡◌, ℕ, List, [], ◌∷◌}
use Rattle.std.specs.List.{flat_map}
use Rattle.cod_chronicle.specs.declared.entry.Entry.{Entry}
use Rattle.cod_chronicle.specs.Said.{StampsRise}
use Rattle.cod_chronicle.specs.Order.{place}
use Rattle.cod_script.specs.Script.{Script, without_lines}
use Rattle.cod_text.specs.Printed.{chronicle_text, line_text}

-- a line for each entry, in the order of the one chronicle
abbrev pub IsPrintedAlone : Type 0
IsPrintedAlone = (x : Script) (h : List Entry) → StampsRise h → chronicle_text x (h ∷ []) ≡ flat_map (λ e. line_text x (place 0 e)) h

-- the text of a run's chronicles is the same where a client's lines were taken out of the scenario
abbrev pub NeedsNoLines : Type 0
NeedsNoLines = (x : Script) (client : ℕ) (hs : List (List Entry)) → chronicle_text (without_lines x client) hs ≡ chronicle_text x hs
