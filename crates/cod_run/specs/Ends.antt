-- The end of a run by threads, and what is printed of it.
use Rattle.std.specs.Prelude.{◌≡◌, ℕ, ◌<◌, ◌≤◌, not, true, All, List, length, map, is_some, slice_get, Option, Some}
use Rattle.std.specs.List.{flat_map}
use Rattle.cod_region.specs.Device.{AllRegions}
use Rattle.cod_board.specs.declared.kill.Kill.{Kill}
use Rattle.cod_board.specs.Kills.{kill_of}
use Rattle.cod_chronicle.specs.declared.entry.Entry.{Entry}
use Rattle.cod_chronicle.specs.Legal.{node_id}
use Rattle.cod_chronicle.specs.Said.{site_as}
use Rattle.cod_place.specs.Rooms.{AddUp, Store}
use Rattle.cod_script.specs.Script.{Script}
use Rattle.cod_script.specs.Owed.{owed_with_care, IsFailLine, IsHistory}
use Rattle.cod_seg.specs.Seg.{Seg}
use Rattle.cod_seg.specs.Sound.{Sound}
use Rattle.cod_segment.specs.Events.{rooms_of}
use Rattle.cod_text.specs.Summary.{summary_text}
use Rattle.cod_text.specs.Unique.{HasChronicles, HasNames}
use Rattle.cod_shell.specs.Lines.{IsNamed, run_lines, taken_on}

-- what a run leaves: the segments, and the kills on the board
pub record End : Type 0 where
  pub segs : List Seg
  pub kills : List (Option Kill)

abbrev pub chronicles_of : End → List (List Entry)
chronicles_of e = map (λ (s : Seg). s.log) e.segs

-- A run of the scenario over the shelf, each client and each care worker on a thread of its own, has come to this end. Its chronicles are
-- one legal history of the scenario, with the rounds of the care workers: `on` says what holds of all regions. Each segment is sound, and
-- is where the scenario has it. The nodes that are killed are those that the scenario fails, each by a line that does. On each node the
-- rooms take no more than there is. The scenario's names and the numbers of the chronicles are such that the printed text has one meaning
-- (`read_one_way` of cod_text).
pub record IsEnd (on : AllRegions) (x : Script) (e : End) : Type 0 where
  pub history : IsHistory on.tell x (λ node. not (on.never_fail (node_id node))) (owed_with_care x) (chronicles_of e)
  pub sound : (i : ℕ) (s : Seg) → slice_get e.segs i ≡ Some s → Sound s
  pub sites : (i : ℕ) (s : Seg) → slice_get e.segs i ≡ Some s → s.site ≡ site_as on.tell x.shape x.nodes i
  pub killed : (node : ℕ) (kill : Kill) → kill_of e.kills node ≡ Some kill → IsFailLine x kill.line node
  pub failed : (line node : ℕ) → IsFailLine x line node → is_some (kill_of e.kills node) ≡ true
  pub room : (node : ℕ) → node < x.nodes → taken_on e.segs node ≤ x.capacity
  pub names : HasNames x
  pub chronicles : HasChronicles x (chronicles_of e)

-- What is left can be printed by the scenario's names: each segment has one, and each node has its kill and its free bytes, to which the
-- rooms of all segments add up.
pub record IsPrintable (x : Script) (segs : List Seg) (kills : List (Option Kill)) (pools : Store) : Type 0 where
  pub count : length segs ≡ length x.segments
  pub named : All (IsNamed x) segs
  pub nodes : length kills ≡ x.nodes
  pub capacity : pools.capacity ≡ x.capacity
  pub free : length pools.free ≡ x.nodes
  pub sums : AddUp pools (flat_map rooms_of segs)

-- the lines of the chronicles, of all columns and of the nodes
abbrev pub run_text : Script → End → List ℕ
run_text x e = run_lines x e.kills e.segs

-- how much happened
abbrev pub run_summary : Script → End → List ℕ
run_summary x e = summary_text (chronicles_of e)
