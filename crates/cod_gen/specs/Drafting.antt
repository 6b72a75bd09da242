-- A scenario that is being made, line by line.
use Rattle.std.specs.Prelude.{ℕ, ◌+◌, ◌%◌, ◌==◌, if◌then◌else◌, List, [], ◌∷◌, ◌++◌}
use Rattle.cod_types.specs.declared.call.Call.{Call}
use Rattle.cod_types.specs.declared.call.Call.TheVariants as calls
use Rattle.cod_script.specs.declared.line.What.{What}
use Rattle.cod_script.specs.Script.{Body, onto_last}
use Rattle.cod_gen.specs.declared.care.Care.{Care}
use Rattle.cod_gen.specs.declared.care.Care.TheVariants.{Merge, Tick, Rebuild}

-- the body so far, the number of the next line, and the state of what is drawn
pub record Draft : Type 0 where
  pub body : Body
  pub line : ℕ
  pub state : ℕ

-- one line more for the last client
abbrev pub with_line : Draft → What → Draft
with_line d what = record d { body = record d.body { clients = onto_last d.body.clients (record { line = d.line; what = what }) }; line = d.line + 1 }

-- and more lines, one after another
abbrev pub with_lines : Draft → List What → Draft
with_lines d [] = d
with_lines d (w ∷ ws) = with_lines (with_line d w) ws

-- where so much more was drawn
abbrev pub with_state : Draft → ℕ → Draft
with_state d x = record d { state = x }

-- one client more, whose name takes a line of the text
abbrev pub with_client : Draft → List ℕ → Draft
with_client d name = record d { body = record d.body { clients = d.body.clients ++ record { name = name; lines = [] } ∷ [] }; line = d.line + 1 }

-- how much is drawn in a round
abbrev pub draws_in : (round : ℕ) → ℕ
draws_in round = if round % 10 == 9 then 5 else 3

-- what is asked of each segment
abbrev pub call_of : Care → Call
call_of Merge = calls.Merge
call_of Tick = calls.Tick
call_of Rebuild = calls.Rebuild
