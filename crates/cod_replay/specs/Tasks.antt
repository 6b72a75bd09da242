-- What a client has to do, as plain data.
use Rattle.std.specs.Prelude.{◌≡◌, All, ℕ, ◌+◌, nat_le, nat_lt, if◌then◌else◌, Bool, List, length, slice_index_or, slice_set}
use Rattle.cod_types.specs.Limits.{Shape, shape}
use Rattle.cod_types.specs.declared.call.Call.TheVariants.{Merge, Upgrade}
use Rattle.cod_claims.specs.Slips.{Paper, prepared}
use Rattle.cod_script.specs.declared.line.Line.{Line}
use Rattle.cod_script.specs.declared.line.What.{What}
use Rattle.cod_script.specs.declared.line.What.TheVariants as what
use Rattle.cod_replay.specs.declared.task.Due.{Due}
use Rattle.cod_replay.specs.declared.task.Due.TheVariants as due
use Rattle.cod_replay.specs.declared.task.Task.{Task}
use Rattle.cod_replay.specs.declared.task.Task.TheVariants.{Call, Fail, Done}

-- A client: who it is, how many of its calls were answered, its clock, and its lines, of which so many are done.
pub record Play : Type 0 where
  pub caller : ℕ
  pub number : ℕ
  pub clock : ℕ
  pub next : ℕ
  pub tasks : List Task

-- the i-th line
abbrev pub task_at : List Task → ℕ → Task
task_at tasks i = slice_index_or tasks i Done

-- the line that it has come to
abbrev pub task_of : Play → Task
task_of p = task_at p.tasks p.next

-- what stands for a slip where there is none
abbrev pub no_slip : Paper
no_slip = prepared (shape 1 0 0 0 0 0 0 0) Merge

abbrev pub slip_in : Task → Paper
slip_in (Call seg slip) = slip
slip_in (Fail line node) = no_slip
slip_in Done = no_slip

abbrev pub due_by : Task → Due
due_by (Call seg slip) = due.Call seg
due_by (Fail line node) = due.Fail line node
due_by Done = due.Nothing

-- what a client is to do next
abbrev pub due_of : Play → Due
due_of p = if nat_lt p.next (length p.tasks) then due_by (task_of p) else due.Nothing

-- it has no line left
abbrev pub has_ended : Play → Bool
has_ended p = nat_le (length p.tasks) p.next

-- with one line more done
abbrev pub gone_on : Play → Play
gone_on p = record p { next = p.next + 1; tasks = slice_set p.tasks p.next Done }

-- what a line is to do, with a whole slip for its call
abbrev pub whole_task : Shape → Line → Task
whole_task g l = by l.what where
  by : What → Task
  by (what.Segment seg call) = Call seg (prepared g call)
  by (what.Fail node) = Fail l.line node

-- an upgrade is asked for only where the geometry admits records of version 2
abbrev pub IsDatedIn : Shape → What → Type 0
IsDatedIn g (what.Segment seg call) = call ≡ Upgrade → g.version ≡ 2
IsDatedIn g (what.Fail node) = Unit {0}

abbrev pub IsDated : Shape → Line → Type 0
IsDated g l = IsDatedIn g l.what

abbrev pub AreDated : Shape → List Line → Type 0
AreDated g lines = All (IsDated g) lines
