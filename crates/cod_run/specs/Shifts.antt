-- A caller's work on a cluster.
use Rattle.std.specs.Prelude.{◌≡◌, ℕ, ◌+◌, ◌<◌, ◌^◌, false, List, ◌++◌, length, slice_get, Some}
use Rattle.std.specs.List.{AllByRecursion}
use Rattle.cod_accounts.specs.Closing.{Fulfils}
use Rattle.cod_accounts.specs.Working.{Worked}
use Rattle.cod_closing.specs.Closing.{log_of}
use Rattle.cod_opening.specs.Opening.{IsOpened}
use Rattle.cod_pass.specs.States.{Common, course_on, IsCommonOf, IsPassOf, IsRestOf, known_by, PassState, RestState}
use Rattle.cod_script.specs.declared.line.Line.{Line}
use Rattle.cod_script.specs.Owed.{owed_with_care}
use Rattle.cod_script.specs.Script.{Script, asks}
use Rattle.cod_script.specs.Sound.{IsScenario}
use Rattle.cod_seg.specs.Next.{open_in}
use Rattle.cod_run.specs.Jobs.{AreJobs, CanDo, jobs_of}
use Rattle.cod_run.specs.declared.job.Job.{Job}

-- A pass by which these jobs can be done: they are those of some lines.
pub record CanWork (x : Script) (k : Common) (p : PassState) (jobs : List Job) : Type 0 where
  pub common : IsCommonOf x k
  pub pass : IsPassOf x k p
  pub lines : List Line
  pub jobs_are : jobs ≡ jobs_of x.shape lines
  pub can : AllByRecursion (CanDo x) lines
  pub few : p.number + length (asks lines) < 2 ^ 32

-- q is the pass p after these lines: whatever it had worked before, it has worked these besides.
pub record HasDone (x : Script) (k : Common) (p q : PassState) (lines : List Line) : Type 0 where
  pub pass : IsPassOf x k q
  pub caller : q.caller ≡ p.caller
  pub number : q.number ≡ p.number + length (asks lines)
  pub worked : (trace : List Line) → Worked log_of open_in (course_on x k.regions) false (known_by p) trace
      → Worked log_of open_in (course_on x k.regions) false (known_by q) (trace ++ lines)

-- The start of a run: a cluster of the scenario, a pass of each caller, which has done nothing, and the jobs of what it owes.
pub record IsStart (x : Script) (k : Common) (rest : RestState) (passes : List PassState) (jobs : List (List Job)) : Type 0 where
  pub scenario : IsScenario x
  pub opened : IsOpened x (length x.clients + x.workers) k rest passes
  pub due : AreJobs x (length x.clients + x.workers) jobs

-- The callers' work is done: by its pass each has made the calls and the failures that it owes.
pub record IsWorked (x : Script) (k : Common) (rest : RestState) (passes : List PassState) : Type 0 where
  pub scenario : IsScenario x
  pub common : IsCommonOf x k
  pub first : IsRestOf x k (length x.clients + x.workers) rest
  pub count : length passes ≡ length x.clients + x.workers
  pub each : (c : ℕ) (p : PassState) → slice_get passes c ≡ Some p
      → IsPassOf x k p × Fulfils log_of open_in (course_on x k.regions) (owed_with_care x) c (known_by p)
