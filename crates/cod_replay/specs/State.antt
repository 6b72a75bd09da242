-- A replay as plain data.
use Rattle.std.specs.Prelude.{ℕ, nat_lt, if◌then◌else◌, Bool, true, not, Option, List, [], slice_index_or}
use Rattle.cod_region.specs.Device.{AllRegions}
use Rattle.cod_board.specs.declared.kill.Kill.{Kill}
use Rattle.cod_chronicle.specs.Legal.{node_id}
use Rattle.cod_claims.specs.Slips.{Paper}
use Rattle.cod_place.specs.Rooms.{Store}
use Rattle.cod_script.specs.Script.{Script}
use Rattle.cod_seg.specs.Seg.{Seg}
use Rattle.cod_seg.specs.Sound.{is_frail}
use Rattle.cod_segment.specs.Events.{kills_at}
use Rattle.cod_turns.specs.Turns.{Course, World}
use Rattle.cod_advance.specs.Histories.{Moment}
use Rattle.cod_advance.specs.Worlds.{most_in, Places, work_in, world_of}
use Rattle.cod_replay.specs.Tasks.{Play, slip_in, task_of}

-- The whole scenario as it was given, the nodes on which the shelf may fail, whether regions tell what they hold, the kills on the board,
-- the nodes' free bytes, the segments and the clients.
pub record State : Type 0 where
  pub script : Script
  pub frail : List ℕ
  pub told : Bool
  pub kills : List (Option Kill)
  pub pools : Store
  pub segs : List Seg
  pub plays : List Play

-- the i-th client
abbrev pub nobody : Play
nobody = record { caller = 0; number = 0; clock = 0; next = 0; tasks = [] }

abbrev pub play_at : List Play → ℕ → Play
play_at plays i = slice_index_or plays i nobody

-- what is replayed
abbrev pub course_of : State → Course
course_of s = record { script = s.script; may = is_frail s.frail; told = s.told }

-- how far the clients are
abbrev pub places_of : List Play → Places
places_of plays = record { next = λ c. (play_at plays c).next; clock = λ c. (play_at plays c).clock }

-- the slip of each client's call
abbrev pub slips_of : List Play → ℕ → Paper
slips_of plays c = slip_in (task_of (play_at plays c))

-- the chronicles, what is open, the board and the clients, as turns see them
abbrev pub world_in : State → World
world_in s = world_of s.segs (kills_at s.kills) (places_of s.plays)

-- the same with the segments themselves
abbrev pub moment_of : State → Moment
moment_of s = record { segs = s.segs; kills = s.kills; places = places_of s.plays }

-- the work that is left for the calls in progress, and what it never passes
abbrev pub work_of : State → ℕ
work_of s = work_in (course_of s) (kills_at s.kills) s.segs

abbrev pub most_of : State → ℕ
most_of s = most_in (course_of s)

-- what holds of the regions of a shelf on so many nodes; as if on others, which a scenario does not have, they never failed
abbrev pub fenced : (nodes : ℕ) → AllRegions → AllRegions
fenced nodes regions = record { tell = regions.tell; never_fail = λ x. if nat_lt x.0 nodes then regions.never_fail x else true }

-- a scenario over the regions of a shelf
abbrev pub course_over : Script → AllRegions → Course
course_over script regions = record { script = script; may = λ node. not (regions.never_fail (node_id node)); told = regions.tell }
