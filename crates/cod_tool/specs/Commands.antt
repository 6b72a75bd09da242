-- The commands of the program, by its words.
use Rattle.std.specs.Prelude.{ℕ, ◌≤◌, ◌&&◌, nat_le, if◌then◌else◌, List, [], ◌∷◌, codes, Option, Some, None}
use Rattle.std.specs.Str.{bytes_eq}
use Rattle.cod_words.specs.Words.{number_of}
use Rattle.cod_tool.specs.declared.command.Command.{Command}
use Rattle.cod_tool.specs.declared.command.Command.TheVariants.{Scenario, Code, Gen, Load}
use Rattle.cod_tool.specs.declared.command.Purpose.TheVariants.{Replay, Summary, Check, Plan}

-- the command that one word is
abbrev pub command_alone : List ℕ → Option Command
command_alone word =
    if bytes_eq word (codes "replay") then Some (Scenario Replay)
    else if bytes_eq word (codes "summary") then Some (Scenario Summary)
    else if bytes_eq word (codes "check") then Some (Scenario Check)
    else if bytes_eq word (codes "plan") then Some (Scenario Plan)
    else None

-- `code N K`, where 1 ≤ K ≤ N ≤ 16
abbrev pub code_of : (n k : Option ℕ) → Option Command
code_of (Some n) (Some k) = if nat_le 1 k && (nat_le k n && nat_le n 16) then Some (Code n k) else None
code_of _ _ = None

-- a code has at least one data column, and at most 16 columns
pub record IsCode (n k : ℕ) : Type 0 where
  pub some_data : 1 ≤ k
  pub within_columns : k ≤ n
  pub most : n ≤ 16

-- `gen NUMBER`
abbrev pub gen_of : (number : Option ℕ) → Option Command
gen_of (Some number) = Some (Gen number)
gen_of None = None

-- `load NUMBER`
abbrev pub load_of : (number : Option ℕ) → Option Command
load_of (Some number) = Some (Load number)
load_of None = None

-- the command of two words
abbrev pub command_with : (word number : List ℕ) → Option Command
command_with word number =
    if bytes_eq word (codes "gen") then gen_of (number_of number)
    else if bytes_eq word (codes "load") then load_of (number_of number)
    else None

-- `replay`, `summary`, `check`, `plan`, `gen NUMBER`, `load NUMBER`, or `code N K`, where a number is 1 to 10 digits with a value below 2^32;
-- no other words are a command
abbrev pub command_of : List (List ℕ) → Option Command
command_of (word ∷ []) = command_alone word
command_of (word ∷ number ∷ []) = command_with word number
command_of (word ∷ n ∷ k ∷ []) = if bytes_eq word (codes "code") then code_of (number_of n) (number_of k) else None
command_of _ = None
