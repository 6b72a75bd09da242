-- What a replay prints.
use Rattle.std.specs.Prelude.{◌≡◌, ℕ, Bool, true, false, List, Option, Some, None}
use Rattle.cod_advance.specs.Histories.{Moment}
use Rattle.cod_region.specs.Device.{AllRegions}
use Rattle.cod_script.specs.Script.{Script}
use Rattle.cod_script.specs.Text.{canonical_text}
use Rattle.cod_gen.specs.Generated.{generated}
use Rattle.cod_shell.specs.Reading.{HasScenario, ReadsScenario, RefusesText}
use Rattle.cod_tool.specs.declared.command.Command.{Command}
use Rattle.cod_tool.specs.declared.command.Command.TheVariants as command
use Rattle.cod_tool.specs.declared.command.Purpose.{Purpose}
use Rattle.cod_tool.specs.declared.command.Purpose.TheVariants as purpose
use Rattle.cod_tool.specs.Planned.{check_text, placement_text}
use Rattle.cod_tool.specs.Coefficients.{coefficients_text}
use Rattle.cod_tool.specs.Ends.{IsEnd, run_summary, run_text}

-- A run of the scenario over the shelf has come to some end, and this text of it is printed. `on` says what holds of all regions, and
-- `Took` how the text was taken.
pub record Ran (on : AllRegions) (x : Script) (text_of : Script → Moment → List ℕ) (Took : List ℕ → Type 0) : Type 0 where
  pub end : Moment
  pub run : IsEnd on x end
  pub printed : Took (text_of x end)

-- What was done with a scenario. `Took` says how a text was taken.
abbrev pub Serves : (on : AllRegions) → Purpose → (Took : List ℕ → Type 0) → Script → Type 0
Serves on purpose.Replay Took x = Ran on x run_text Took
Serves on purpose.Summary Took x = Ran on x run_summary Took
Serves on purpose.Check Took x = Took (check_text x)
Serves on purpose.Plan Took x = Took (placement_text x)

-- What a command does where it ends well. `left` and `left'` are what the source still has before and afterwards. The
-- coefficients of a code, the scenario that a number gives, and the summary of its run are printed without the source.
abbrev pub Does : (on : AllRegions) → Command → (left left' : Option (List ℕ)) (Took : List ℕ → Type 0) → Type 0
Does on (command.Scenario purpose) left left' Took = ReadsScenario (Serves on purpose Took) left left'
Does on (command.Code n k) left left' Took = (left' ≡ left) × Took (coefficients_text n k)
Does on (command.Gen number) left left' Took = (left' ≡ left) × Took (canonical_text (generated number))
Does on (command.Load number) left left' Took = (left' ≡ left) × Ran on (generated number) run_summary Took

-- what a command has read and refused
abbrev pub Refuses : Command → (left left' : Option (List ℕ)) (Took : List ℕ → Type 0) → Type 0
Refuses (command.Scenario purpose) left left' Took = RefusesText left left' Took
Refuses (command.Code n k) left left' Took = ⊥
Refuses (command.Gen number) left left' Took = ⊥
Refuses (command.Load number) left left' Took = ⊥

-- A command has all that it wants of its input: it reads no scenario, or what the source has is the text of one.
abbrev pub CanServe : Command → (left : Option (List ℕ)) → Type 0
CanServe (command.Scenario asked) left = HasScenario left
CanServe (command.Code n k) left = Unit {0}
CanServe (command.Gen number) left = Unit {0}
CanServe (command.Load number) left = Unit {0}

-- the command reads the source
abbrev pub reads_source : Option Command → Bool
reads_source (Some (command.Scenario purpose)) = true
reads_source (Some (command.Code n k)) = false
reads_source (Some (command.Gen number)) = false
reads_source (Some (command.Load number)) = false
reads_source None = false

-- the command takes memory
abbrev pub takes_memory : Option Command → Bool
takes_memory (Some (command.Scenario purpose)) = true
takes_memory (Some (command.Code n k)) = false
takes_memory (Some (command.Gen number)) = true
takes_memory (Some (command.Load number)) = true
takes_memory None = false
