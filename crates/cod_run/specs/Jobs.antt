-- What callers have to do, as plain data.
use Rattle.std.specs.Prelude.{◌≡◌, ℕ, ◌-◌, ◌<◌, ◌≤◌, nat_lt, if◌then◌else◌, All, Bool, List, map, length, slice_get, slice_index_or, Some}
use Rattle.std.specs.List.{range_with_len}
use Rattle.cod_types.specs.Limits.{Shape}
use Rattle.cod_types.specs.declared.call.Call.TheVariants.{Upgrade}
use Rattle.cod_claims.specs.Slips.{prepared}
use Rattle.cod_script.specs.declared.line.Line.{Line}
use Rattle.cod_script.specs.declared.line.What.{What}
use Rattle.cod_script.specs.declared.line.What.TheVariants as what
use Rattle.cod_script.specs.Owed.{care_ask, has_fail}
use Rattle.cod_script.specs.Script.{Ask, Script, lines_by, nobody}
use Rattle.cod_run.specs.declared.job.Job.{Job}
use Rattle.cod_run.specs.declared.job.Job.TheVariants as job

-- what a line is to do, with a whole slip for its call
abbrev pub job_for : Shape → (line : ℕ) → What → Job
job_for g line (what.Segment seg call) = job.Call seg (prepared g call)
job_for g line (what.Fail node) = job.Fail line node

abbrev pub job_of : Shape → Line → Job
job_of g l = job_for g l.line l.what

abbrev pub jobs_of : Shape → List Line → List Job
jobs_of g lines = map (job_of g) lines

-- the line of a care worker's call: it has no number
abbrev pub line_for : Ask → Line
line_for a = record { line = 0; what = what.Segment (record { 0 = a.segment }) a.call }

-- the lines of a care worker's rounds
abbrev pub care_lines : (worker workers segments : ℕ) (repair : Bool) (rounds : ℕ) → List Line
care_lines worker workers segments repair rounds = map (λ round. line_for (care_ask worker workers segments repair round)) (range_with_len 0 rounds)

-- The lines of a caller: a client's own, or those of a care worker's rounds. `repair` says whether workers rebuild.
abbrev pub lines_due : Script → (repair : Bool) → (caller : ℕ) → List Line
lines_due x repair c =
    if nat_lt c (length x.clients) then lines_by x c
    else care_lines (c - length x.clients) x.workers (length x.segments) repair x.rounds

-- what a caller owes: workers rebuild where a line of the scenario fails a node
abbrev pub lines_owed : Script → (caller : ℕ) → List Line
lines_owed x c = lines_due x (has_fail x) c

-- an upgrade is asked for only where the geometry admits records of version 2
abbrev pub IsDatedWhat : Shape → What → Type 0
IsDatedWhat g (what.Segment seg call) = call ≡ Upgrade → g.version ≡ 2
IsDatedWhat g (what.Fail node) = Unit {0}

abbrev pub IsDatedLine : Shape → Line → Type 0
IsDatedLine g l = IsDatedWhat g l.what

abbrev pub AreDated : Shape → List Line → Type 0
AreDated g lines = All (IsDatedLine g) lines

-- so many callers' jobs
pub record AreJobs (x : Script) (count : ℕ) (all : List (List Job)) : Type 0 where
  pub size : length all ≡ count
  pub each : (c : ℕ) (jobs : List Job) → slice_get all c ≡ Some jobs → jobs ≡ jobs_of x.shape (lines_owed x c)

-- a line that can be done in this scenario: its segment or its node is there, and an upgrade stands only where there is version 2
abbrev pub CanDoWhat : Script → (line : ℕ) → What → Type 0
CanDoWhat x line (what.Segment seg call) = (seg.0 < length x.segments) × (call ≡ Upgrade → x.shape.version ≡ 2)
CanDoWhat x line (what.Fail node) = (node.0 < x.nodes) × (1 ≤ line)

abbrev pub CanDo : Script → Line → Type 0
CanDo x l = CanDoWhat x l.line l.what

-- The lines of the first clients were moved out.
pub record IsBareSoFar (whole now : Script) (count : ℕ) : Type 0 where
  pub same : now ≡ record whole { clients = now.clients }
  pub size : length now.clients ≡ length whole.clients
  pub names : (c : ℕ) → (slice_index_or now.clients c nobody).name ≡ (slice_index_or whole.clients c nobody).name
  pub left : (c : ℕ) → count ≤ c → lines_by now c ≡ lines_by whole c
