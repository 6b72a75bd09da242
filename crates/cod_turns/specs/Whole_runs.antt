-- What is promised of whole runs.
use Rattle.std.specs.Prelude.{◌≡◌, ◌↔◌, ℕ, ◌+◌, ◌*◌, ◌≤◌, IsSome, All, List, length}
use Rattle.cod_chronicle.specs.Order.{stamp_at, placed}
use Rattle.cod_script.specs.declared.line.Line.{Line}
use Rattle.cod_script.specs.Script.{Script}
use Rattle.cod_script.specs.Owed.{FailsBehind, IsFailLine, owed, IsHistory}
use Rattle.cod_script.specs.Sound.{IsScenario, line_count}
use Rattle.cod_turns.specs.Turns.{World, Course, start, Turns, AllEnded}

-- a line's number tells where it stands
abbrev pub LinesApart : Script → Type 0
LinesApart x = (line node other_node who other : ℕ) (front other_front : List Line)
    → FailsBehind x who front line node → FailsBehind x other other_front line other_node → (who ≡ other) × (front ≡ other_front)

abbrev pub LinesAreApart : Type 0
LinesAreApart = (x : Script) → IsScenario x → LinesApart x

-- Turns from the start until each client has ended leave one legal history.
abbrev pub RunsAreHistories : Type 0
RunsAreHistories = (x : Course) (turns : List ℕ) (w : World) → IsScenario x.script → Turns x turns (start (length x.script.segments)) w
    → AllEnded x.script w → IsHistory x.told x.script x.may (owed x.script) w.chronicles

-- Then exactly those nodes were killed that a `fail` line names.
abbrev pub FailsAreKills : Type 0
FailsAreKills = (x : Course) (turns : List ℕ) (w : World) → IsScenario x.script → Turns x turns (start (length x.script.segments)) w
    → AllEnded x.script w → (node : ℕ) → (IsSome (w.board node)) ↔ ((line : ℕ) × IsFailLine x.script line node)

-- At each moment of a run there are few entries: three for each line, and one for each column. No stamp is greater than their number.
pub record IsSmall (x : Course) (w : World) : Type 0 where
  pub entries : length (placed w.chronicles) ≤ 3 * line_count x.script.clients + length x.script.segments * x.script.shape.n
  pub stamps : All (λ p. stamp_at p ≤ length (placed w.chronicles)) (placed w.chronicles)

abbrev pub RunsAreSmall : Type 0
RunsAreSmall = (x : Course) (turns : List ℕ) (w : World) → IsScenario x.script → Turns x turns (start (length x.script.segments)) w → IsSmall x w
