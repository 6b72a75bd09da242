-- The commands of the program, by its words.
use Rattle.std.specs.Prelude.{ℕ, if◌then◌else◌, List, [], ◌∷◌, codes, Option, Some, None}
use Rattle.std.specs.Str.{bytes_eq}
use Rattle.cod_run.specs.declared.command.Command.{Command}
use Rattle.cod_run.specs.declared.command.Command.TheVariants.{Run, Summary}

-- the command that one word is
abbrev pub command_alone : List ℕ → Option Command
command_alone word =
    if bytes_eq word (codes "run") then Some Run
    else if bytes_eq word (codes "summary") then Some Summary
    else None

-- `run` or `summary`; no other words are a command
abbrev pub command_of : List (List ℕ) → Option Command
command_of (word ∷ []) = command_alone word
command_of _ = None
