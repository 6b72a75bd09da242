-- What is true of a replay between its turns.
use Rattle.std.specs.Prelude.{◌≡◌, [], ℕ, ◌<◌, ◌≤◌, List, length, replicate, slice_index_or, take, Bool, None}
use Rattle.cod_types.specs.Limits.{Shape}
use Rattle.cod_chronicle.specs.Said.{site_as}
use Rattle.cod_claims.specs.Claimed.{claim_at}
use Rattle.cod_claims.specs.Slips.{Paper}
use Rattle.cod_place.specs.Rooms.{AddUp, CameFrom}
use Rattle.cod_script.specs.declared.line.Line.{Line}
use Rattle.cod_script.specs.declared.line.What.{What}
use Rattle.cod_script.specs.declared.line.What.TheVariants as what
use Rattle.cod_script.specs.Script.{asks, lines_by, nobody as none, Script}
use Rattle.cod_script.specs.Sound.{IsScenario}
use Rattle.cod_seg.specs.Seg.{Seg}
use Rattle.cod_seg.specs.Start.{IsNew}
use Rattle.cod_segment.specs.Events.{kills_at}
use Rattle.cod_stripe.specs.Building.{AreUntouched}
use Rattle.cod_turns.specs.Turns.{IsLineAt}
use Rattle.cod_advance.specs.Histories.{Moment}
use Rattle.cod_advance.specs.Moments.{AreSlips, IsMoment}
use Rattle.cod_advance.specs.Worlds.{seg_at}
use Rattle.cod_homes.specs.Building.{all_rooms}
use Rattle.cod_replay.specs.State.{course_of, moment_of, places_of, play_at, slips_of, State}
use Rattle.cod_replay.specs.Tasks.{AreDated, Play, task_at, task_of, whole_task}
use Rattle.cod_replay.specs.declared.task.Task.{Task}
use Rattle.cod_replay.specs.declared.task.Task.TheVariants.{Call, Fail}

-- an upgrade is asked for only where the geometry admits records of version 2
abbrev pub UpgradesAreDated : Script → Type 0
UpgradesAreDated x = (who : ℕ) → AreDated x.shape (lines_by x who)

-- a task is what the line says, with some slip for its call
abbrev pub IsBegunBy : (line : ℕ) → What → Task → Type 0
IsBegunBy line (what.Segment seg call) t = (p : Paper) × (t ≡ Call seg p)
IsBegunBy line (what.Fail node) t = t ≡ Fail line node

-- A client has a task for each of its lines. That of the line that it has come to is begun, and those of later lines are whole. Its number
-- is that of the calls behind it.
pub record IsPlay (x : Script) (who : ℕ) (p : Play) : Type 0 where
  pub own : p.caller ≡ who
  pub count : length p.tasks ≡ length (lines_by x who)
  pub within : p.next ≤ length p.tasks
  pub number_is : p.number ≡ length (asks (take p.next (lines_by x who)))
  pub here : (l : Line) → IsLineAt x who p.next l → IsBegunBy l.line l.what (task_of p)
  pub later : (i : ℕ) (l : Line) → p.next < i → IsLineAt x who i l → task_at p.tasks i ≡ whole_task x.shape l

-- the i-th segment was just built, over the nodes of which the shelf may fail on these; no device call was made on its regions
pub record IsFirst (x : Script) (told : Bool) (frail : List ℕ) (i : ℕ) (s : Seg) : Type 0 where
  pub new : IsNew s
  pub untouched : AreUntouched s.cols x.shape.n
  pub site : s.site ≡ site_as told x.shape x.nodes i
  pub plain : s.pools ≡ None
  pub frail_is : s.frail ≡ frail

-- so was each of these
pub record AreFirst (x : Script) (told : Bool) (frail : List ℕ) (segs : List Seg) : Type 0 where
  pub size : length segs ≡ length x.segments
  pub each : (i : ℕ) → i < length x.segments → IsFirst x told frail i (seg_at segs i)

-- no node is killed, and each client is at its first line, with the clock 0
abbrev pub beginning : Script → List Seg → Moment
beginning x segs = record { segs = segs; kills = replicate x.nodes None; places = record { next = λ c. 0; clock = λ c. 0 } }

-- Nothing was done yet: the segments were just built.
pub record IsFresh (s : State) : Type 0 where
  pub built : AreFirst s.script s.told s.frail s.segs
  pub begins : moment_of s ≡ beginning s.script s.segs

-- Some turns have led there from the start; each client's slip is one for its call; the board and the pools are those of the nodes; and on
-- each node the rooms of all segments and what is free add up to what the node has.
pub record Stands (s : State) : Type 0 where
  pub scenario : IsScenario s.script
  pub moment : IsMoment (course_of s) s.segs (kills_at s.kills) (places_of s.plays)
  pub frail : (i : ℕ) → i < length s.segs → (seg_at s.segs i).frail ≡ s.frail
  pub slips : AreSlips (course_of s) s.segs (places_of s.plays) (slips_of s.plays)
  pub count : length s.plays ≡ length s.script.clients
  pub each : (who : ℕ) → who < length s.plays → IsPlay s.script who (play_at s.plays who)
  pub board : length s.kills ≡ s.script.nodes
  pub pools : length s.pools.free ≡ s.script.nodes
  pub came : CameFrom s.pools (all_rooms s.segs)
  pub sums : AddUp (record { capacity = s.script.capacity; free = s.pools.free }) (all_rooms s.segs)

-- the scenario as it is kept: its clients have no lines any more
pub record IsBareOf (whole bare : Script) : Type 0 where
  pub same : bare ≡ record whole { clients = bare.clients }
  pub count : length bare.clients ≡ length whole.clients
  pub names : (c : ℕ) → (slice_index_or bare.clients c none).name ≡ (slice_index_or whole.clients c none).name
  pub lines : (c : ℕ) → lines_by bare c ≡ []

-- What is kept: the replay stands, its scenario has no lines any more, and its bench is for the geometry.
pub record IsKept (s : State) (scenario : Script) (desk : Shape) : Type 0 where
  pub stands : Stands s
  pub bare : IsBareOf s.script scenario
  pub bench : desk ≡ s.script.shape

-- no claim and no rebuild is open
pub record IsIdle (s : Seg) : Type 0 where
  pub rebuild : s.rebuild ≡ None
  pub claims : (j : ℕ) → claim_at s.claims j ≡ None

abbrev pub AreIdle : List Seg → Type 0
AreIdle segs = (i : ℕ) → i < length segs → IsIdle (seg_at segs i)
