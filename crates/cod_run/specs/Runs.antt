-- What a run prints.
use Rattle.std.specs.Prelude.{ℕ, List}
use Rattle.cod_region.specs.Device.{AllRegions}
use Rattle.cod_script.specs.Script.{Script}
use Rattle.cod_run.specs.declared.command.Command.{Command}
use Rattle.cod_run.specs.declared.command.Command.TheVariants.{Run, Summary}
use Rattle.cod_run.specs.Ends.{End, IsEnd, run_summary, run_text}

-- A run of the scenario over the shelf has come to some end, and this text of it is printed. `on` says what holds of all regions, and
-- `Took` how the text was taken.
pub record Ran (on : AllRegions) (x : Script) (text_of : Script → End → List ℕ) (Took : List ℕ → Type 0) : Type 0 where
  pub end : End
  pub run : IsEnd on x end
  pub printed : Took (text_of x end)

-- what a command prints of an end
abbrev pub text_of : Command → Script → End → List ℕ
text_of Run = run_text
text_of Summary = run_summary

-- what was done with a scenario
abbrev pub Serves : (on : AllRegions) → Command → (Took : List ℕ → Type 0) → Script → Type 0
Serves on command Took x = Ran on x (text_of command) Took
