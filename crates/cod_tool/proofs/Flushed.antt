-- What a command does, its text taken in another way.
use Rattle.std.proofs.Common.{ℕ, List, Option}
use Rattle.cod_region.specs.Device.{AllRegions}
use Rattle.cod_script.specs.Script.{Script}
use Rattle.cod_tool.specs.declared.command.Command.{Command}
use Rattle.cod_tool.specs.declared.command.Command.TheVariants as command
use Rattle.cod_tool.specs.declared.command.Purpose.{Purpose}
use Rattle.cod_tool.specs.declared.command.Purpose.TheVariants as purpose
use Rattle.cod_advance.specs.Histories.{Moment}
use Rattle.cod_gen.specs.Generated.{generated}
use Rattle.cod_shell.proofs.TextRead.{refusal_as, scenario_as}
use Rattle.cod_tool.specs.Ends.{run_summary, run_text}
use Rattle.cod_tool.specs.Replays.{Does, Ran, Refuses, Serves}

ran_as : (on : AllRegions) (x : Script) (text_of : Script → Moment → List ℕ) (T U : List ℕ → Type 0) → ((text : List ℕ) → T text → U text) → Ran on x text_of T
    → Ran on x text_of U
ran_as on x text_of T U so r = record { end = r.end; run = r.run; printed = so _ r.printed }

serves_as : (on : AllRegions) (asked : Purpose) (x : Script) (T U : List ℕ → Type 0) → ((text : List ℕ) → T text → U text) → Serves on asked T x → Serves on asked U x
serves_as on purpose.Replay x T U so s = ran_as on x run_text T U so s
serves_as on purpose.Summary x T U so s = ran_as on x run_summary T U so s
serves_as on purpose.Check x T U so s = so _ s
serves_as on purpose.Plan x T U so s = so _ s

-- what a command does, its text taken in another way
pub does_as : (on : AllRegions) (c : Command) (left left' : Option (List ℕ)) (T U : List ℕ → Type 0) → ((text : List ℕ) → T text → U text) → Does on c left left' T → Does on c left left' U
does_as on (command.Scenario asked) left left' T U so d = scenario_as (Serves on asked T) (Serves on asked U) left left' (λ x. serves_as on asked x T U so) d
does_as on (command.Code n k) left left' T U so d = (d.0, so _ d.1)
does_as on (command.Gen number) left left' T U so d = (d.0, so _ d.1)
does_as on (command.Load number) left left' T U so d = (d.0, ran_as on (generated number) run_summary T U so d.1)

-- what a command refuses, its line taken in another way
pub refuses_as : (c : Command) (left left' : Option (List ℕ)) (T U : List ℕ → Type 0) → ((text : List ℕ) → T text → U text) → Refuses c left left' T → Refuses c left left' U
refuses_as (command.Scenario asked) left left' T U so r = refusal_as left left' T U so r
refuses_as (command.Code n k) left left' T U so r = r
refuses_as (command.Gen number) left left' T U so r = r
refuses_as (command.Load number) left left' T U so r = r
