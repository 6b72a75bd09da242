-- The end of a run, and what is printed of it.
use Rattle.std.specs.Prelude.{◌≡◌, ℕ, ◌<◌, ◌≤◌, not, List, map}
use Rattle.cod_region.specs.Device.{AllRegions}
use Rattle.cod_chronicle.specs.declared.entry.Entry.{Entry}
use Rattle.cod_chronicle.specs.Legal.{node_id}
use Rattle.cod_script.specs.Script.{Script}
use Rattle.cod_script.specs.Owed.{owed, IsHistory}
use Rattle.cod_seg.specs.Seg.{Seg}
use Rattle.cod_seg.specs.Sound.{is_frail}
use Rattle.cod_text.specs.Summary.{summary_text}
use Rattle.cod_text.specs.Unique.{HasChronicles, HasNames}
use Rattle.cod_shell.specs.Lines.{run_lines, taken_on}
use Rattle.cod_turns.specs.Turns.{Course}
use Rattle.cod_turns.specs.Rounds.{IsRun, turns_of}
use Rattle.cod_advance.specs.Histories.{Leads, Moment, world_at}
use Rattle.cod_advance.specs.Worlds.{AreSegmentsOf}
use Rattle.cod_replay.specs.Standing.{AreFirst, AreIdle, beginning}
use Rattle.cod_replay.specs.State.{course_over, fenced, moment_of, State}

abbrev pub chronicles_of : Moment → List (List Entry)
chronicles_of e = map (λ s. s.log) e.segs

-- the bytes that the rooms of all segments take on a node
abbrev pub taken_at : Moment → (node : ℕ) → ℕ
taken_at e node = taken_on e.segs node

-- A scenario over the regions of a shelf. Beyond the scenario's nodes nothing may fail, since nothing is there.
abbrev pub course : AllRegions → Script → Course
course on x = course_over x (fenced x.nodes on)

-- The turns of a run with so many rounds have led there from segments that were just built over the shelf, with no device call yet, each
-- turn as its event promises, with its device calls. The shelf may fail on these nodes of the scenario.
pub record IsLedTo (on : AllRegions) (x : Script) (rounds : ℕ) (e : Moment) : Type 0 where
  pub frail : List ℕ
  pub may : (node : ℕ) → is_frail frail node ≡ (course on x).may node
  pub first : List Seg
  pub built : AreFirst x on.tell frail first
  pub leads : Leads (course on x) (turns_of x rounds) (beginning x first) e

-- A run of the scenario over the shelf has come to this end. Its chronicles are one legal history of the scenario: `on` says what holds of
-- all regions. Its segments are sound, each at its site, with nothing open, and the turns of that run have led them there. On each node the
-- rooms take no more than there is. The scenario's names and the numbers of the chronicles are such that the printed text has one meaning
-- (`read_one_way` of cod_text).
pub record IsEnd (on : AllRegions) (x : Script) (e : Moment) : Type 0 where
  pub run : IsRun (course on x) (world_at e)
  pub led : IsLedTo on x run.count e
  pub history : IsHistory on.tell x (λ node. not (on.never_fail (node_id node))) (owed x) (chronicles_of e)
  pub segments : AreSegmentsOf (course on x) e.segs
  pub idle : AreIdle e.segs
  pub room : (node : ℕ) → node < x.nodes → taken_at e node ≤ x.capacity
  pub names : HasNames x
  pub chronicles : HasChronicles x (chronicles_of e)

-- the lines of the chronicles, of all columns and of the nodes
abbrev pub run_text : Script → Moment → List ℕ
run_text x e = run_lines x e.kills e.segs

-- how much happened
abbrev pub run_summary : Script → Moment → List ℕ
run_summary x e = summary_text (chronicles_of e)

-- a replay of the scenario over the shelf has come to its end
pub record HasRun (on : AllRegions) (x : Script) (s : State) : Type 0 where
  pub script : s.script ≡ x
  pub ended : IsEnd on x (moment_of s)
