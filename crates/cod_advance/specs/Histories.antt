-- A run in its segments: how each turn changed them, with its exact steps and device calls.
use Rattle.std.specs.Prelude.{◌≡◌, ◌⊎◌, ℕ, ◌≤◌, List, [], ◌∷◌, length, Option}
use Rattle.cod_board.specs.declared.kill.Kill.{Kill as Killed}
use Rattle.cod_script.specs.Script.{lines_by}
use Rattle.cod_seg.specs.Seg.{Seg}
use Rattle.cod_segment.specs.declared.asking.Outcome.{Outcome}
use Rattle.cod_segment.specs.Events.{kills_at}
use Rattle.cod_turns.specs.Rounds.{IsRunFrom, turns_of}
use Rattle.cod_turns.specs.Turns.{Course, Turns, World}
use Rattle.cod_advance.specs.Worlds.{AreSegmentsOf, HasFailed, HasServed, Places, world_of}

-- the segments, the kills on the board, and how far the clients are
pub record Moment : Type 0 where
  pub segs : List Seg
  pub kills : List (Option Killed)
  pub places : Places

-- as turns see it
abbrev pub world_at : Moment → World
world_at a = world_of a.segs (kills_at a.kills) a.places

-- One turn of a client: an event of its call at one segment, as it is promised; or a node's failure; or nothing, where no line is left.
abbrev pub Takes : Course → (who : ℕ) → Moment → Moment → Type 0
Takes x who a b =
    ((outcome : Outcome) × HasServed x who (kills_at a.kills) outcome a.segs a.places b.segs b.places × (b.kills ≡ a.kills))
    ⊎ ((HasFailed x.script who a.kills a.places b.kills b.places × (b.segs ≡ a.segs))
    ⊎ ((length (lines_by x.script who) ≤ a.places.next who) × (b ≡ a)))

-- turns of these clients, one after another
abbrev pub Leads : Course → List ℕ → Moment → Moment → Type 0
Leads x [] a b = b ≡ a
Leads x (who ∷ rest) a b = (m : Moment) × Takes x who a m × Leads x rest m b

-- They are turns of a run, and leave the course's segments.
abbrev pub LeadsAreTurns : Type 0
LeadsAreTurns = (x : Course) (turns : List ℕ) (a b : Moment) → AreSegmentsOf x a.segs → Leads x turns a b
    → Turns x turns (world_at a) (world_at b) × AreSegmentsOf x b.segs

-- A run led from the one moment to the other: the turns of the schedule, and of so many rounds, until each client has ended.
pub record Runs (x : Course) (a b : Moment) : Type 0 where
  pub run : IsRunFrom x (world_at a) (world_at b)
  pub leads : Leads x (turns_of x.script run.count) a b
