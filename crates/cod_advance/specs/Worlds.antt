-- A run's segments as a world of turns, and what becomes of it.
use Rattle.std.specs.Prelude.{◌≡◌, ◌≢◌, ℕ, ◌+◌, ◌*◌, ◌<◌, ◌≤◌, IsTrue, true, false, Option, None, List, [], length, map, slice_index_or, slice_set}
use Rattle.cod_types.specs.Limits.{shape}
use Rattle.cod_types.specs.declared.call.Call.{Call as Asked}
use Rattle.cod_types.specs.declared.call.NodeId.{NodeId}
use Rattle.cod_types.specs.declared.call.SegId.{SegId}
use Rattle.cod_board.specs.declared.kill.Kill.{Kill as Killed}
use Rattle.cod_board.specs.Kills.{killed}
use Rattle.cod_chronicle.specs.Event.{Kills as Board}
use Rattle.cod_chronicle.specs.Said.{site_as}
use Rattle.cod_claims.specs.Slips.{Paper}
use Rattle.cod_script.specs.declared.line.What.TheVariants.{Fail, Segment}
use Rattle.cod_script.specs.Script.{asks, lines_by, Script}
use Rattle.cod_seg.specs.Next.{open_in}
use Rattle.cod_seg.specs.Seg.{Seg}
use Rattle.cod_seg.specs.Sound.{is_frail, Sound}
use Rattle.cod_seg.specs.Start.{IsNew}
use Rattle.cod_segment.specs.declared.asking.Outcome.{Outcome}
use Rattle.cod_segment.specs.Advancing.{IsAdvanced}
use Rattle.cod_segment.specs.Events.{IsAsked, IsSettingOf, kills_at, request_of}
use Rattle.cod_segment.specs.Exact.{Turns}
use Rattle.cod_turns.specs.Progress.{total}
use Rattle.cod_turns.specs.Rounds.{IsProgress}
use Rattle.cod_turns.specs.Turns.{board_clock, Course, is_answered, IsLineAt, line_after, setting, start, Turn, World}
use Rattle.cod_turns.specs.declared.turned.Turned.TheVariants as turned
use Rattle.cod_advance.specs.Served.{turned_by}
use Rattle.cod_advance.specs.Work.{most_work, pieces_in, work_at}

-- what stands for a segment that isn't there: nothing is open in it
abbrev pub no_seg : Seg
no_seg =
    record {
      site = site_as false (shape 1 0 0 0 0 0 0 0) 0 0;
      frail = [];
      pools = None;
      log = [];
      cols = [];
      cuts = [];
      claims = [];
      version = 1;
      rebuild = None;
    }

-- the i-th segment
abbrev pub seg_at : List Seg → ℕ → Seg
seg_at segs i = slice_index_or segs i no_seg

-- How far each client is: its next line, and its clock.
pub record Places : Type 0 where
  pub next : ℕ → ℕ
  pub clock : ℕ → ℕ

-- the chronicles of these segments and what is open in each, the board's kills, and how far the clients are
abbrev pub world_of : List Seg → Board → Places → World
world_of segs board places =
    record {
      chronicles = map (λ s. s.log) segs;
      opened = λ i c. open_in (seg_at segs i) c;
      board = board;
      next = places.next;
      clock = places.clock;
    }

-- A segment of a course: it is sound, it is at the course's site of this number, and its shelf may fail only where the course's may.
pub record IsSegmentOf (x : Course) (i : ℕ) (s : Seg) : Type 0 where
  pub sound : Sound s
  pub site : s.site ≡ site_as x.told x.script.shape x.script.nodes i
  pub may : (node : ℕ) → is_frail s.frail node ≡ true → IsTrue (x.may node)

-- as many as the scenario has
pub record AreSegmentsOf (x : Course) (segs : List Seg) : Type 0 where
  pub count : length segs ≡ length x.script.segments
  pub each : (i : ℕ) → i < length segs → IsSegmentOf x i (seg_at segs i)

-- a turn goes on where its segment is
abbrev pub SettingIsSegments : Type 0
SettingIsSegments = (x : Course) (segs : List Seg) (board : Board) (places : Places) (i : ℕ) → AreSegmentsOf x segs → i < length segs
    → IsSettingOf (setting x (world_of segs board places) i) (seg_at segs i)

-- ---- at first

-- a new segment of a course
pub record IsNewOf (x : Course) (i : ℕ) (s : Seg) : Type 0 where
  pub new : IsNew s
  pub site : s.site ≡ site_as x.told x.script.shape x.script.nodes i
  pub may : (node : ℕ) → is_frail s.frail node ≡ true → IsTrue (x.may node)

abbrev pub NewAreSegments : Type 0
NewAreSegments = (x : Course) (segs : List Seg) → length segs ≡ length x.script.segments
    → ((i : ℕ) → i < length segs → IsNewOf x i (seg_at segs i)) → AreSegmentsOf x segs

-- each segment is new, no node is killed, and each client is at its first line, with the clock 0
pub record IsAtFirst (segs : List Seg) (board : Board) (places : Places) : Type 0 where
  pub new : (i : ℕ) → i < length segs → IsNew (seg_at segs i)
  pub board_is : (node : ℕ) → board node ≡ None
  pub next_is : (c : ℕ) → places.next c ≡ 0
  pub clock_is : (c : ℕ) → places.clock c ≡ 0

abbrev pub StartIsStart : Type 0
StartIsStart = (segs : List Seg) (board : Board) (places : Places) → IsAtFirst segs board places → world_of segs board places ≡ start (length segs)

-- ---- one turn

-- the other clients stay where they are
abbrev pub OthersStayAt : (who : ℕ) → (old new : Places) → Type 0
OthersStayAt who old new = (c : ℕ) → c ≢ who → (new.next c ≡ old.next c) × (new.clock c ≡ old.clock c)

-- A client is at a line with a call to a segment; its slip has that call; the segment has had one event of it, as it is promised; and all
-- other segments and clients stay.
pub record HasServed (x : Course) (who : ℕ) (board : Board) (outcome : Outcome) (segs : List Seg) (old : Places) (later : List Seg) (new : Places) : Type 0 where
  pub line : ℕ
  pub seg : SegId
  pub call : Asked
  pub at : IsLineAt x.script who (old.next who) (record { line = line; what = Segment seg call })
  pub there : seg.0 < length segs
  pub number : ℕ
  pub number_is : number ≡ length (asks at.front)
  pub slip : Paper
  pub slip_after : Paper
  pub asked : IsAsked (seg_at segs seg.0) who number slip call
  pub now : Seg
  pub turns : Turns (setting x (world_of segs board old) seg.0) (request_of who number call) (old.clock who) (new.clock who) outcome (seg_at segs seg.0) now
  pub advanced : IsAdvanced outcome (request_of who number call) (new.clock who) now slip slip_after
  pub becomes : later ≡ slice_set segs seg.0 now
  pub moves : new.next who ≡ line_after (old.next who) (is_answered (turned_by outcome))
  pub others : OthersStayAt who old new

-- it is that client's turn
abbrev pub ServingIsTurn : Type 0
ServingIsTurn = (x : Course) (who : ℕ) (board : Board) (outcome : Outcome) (segs : List Seg) (old : Places) (later : List Seg) (new : Places)
    → AreSegmentsOf x segs → HasServed x who board outcome segs old later new
    → Turn x who (world_of segs board old) (world_of later board new) (turned_by outcome)

abbrev pub ServingKeeps : Type 0
ServingKeeps = (x : Course) (who : ℕ) (board : Board) (outcome : Outcome) (segs : List Seg) (old : Places) (later : List Seg) (new : Places)
    → AreSegmentsOf x segs → HasServed x who board outcome segs old later new → AreSegmentsOf x later

-- A client is at a `fail` line, and its node is killed by that line, at the client's clock, unless it was killed before; the client goes on
-- to its next line, and all else stays.
pub record HasFailed (x : Script) (who : ℕ) (kills : List (Option Killed)) (old : Places) (after : List (Option Killed)) (new : Places) : Type 0 where
  pub node : NodeId
  pub kill : Killed
  pub at : IsLineAt x who (old.next who) (record { line = kill.line; what = Fail node })
  pub there : node.0 < length kills
  pub clock_is : kill.clock ≡ board_clock (old.clock who)
  pub becomes : after ≡ killed node.0 kill kills
  pub moves : new.next who ≡ old.next who + 1
  pub stays : new.clock who ≡ old.clock who
  pub others : OthersStayAt who old new

abbrev pub FailingIsTurn : Type 0
FailingIsTurn = (x : Course) (who : ℕ) (segs : List Seg) (kills : List (Option Killed)) (old : Places) (after : List (Option Killed)) (new : Places)
    → HasFailed x.script who kills old after new
    → Turn x who (world_of segs (kills_at kills) old) (world_of segs (kills_at after) new) turned.Killed

-- a client with no line left
abbrev pub EndingIsTurn : Type 0
EndingIsTurn = (x : Course) (who : ℕ) (segs : List Seg) (board : Board) (places : Places) → length (lines_by x.script who) ≤ places.next who
    → Turn x who (world_of segs board places) (world_of segs board places) turned.Ended

-- ---- the work of all segments

abbrev pub work_in : Course → Board → List Seg → ℕ
work_in x board segs = total (λ i. work_at board (length x.script.clients) (seg_at segs i)) (length segs)

abbrev pub most_in : Course → ℕ
most_in x = length x.script.segments * most_work x.script.shape.n (length x.script.clients) x.script.nodes (pieces_in x.script.shape.block)

-- it never passes that, whichever nodes are killed
abbrev pub AllWorkIsBounded : Type 0
AllWorkIsBounded = (x : Course) (board : Board) (segs : List Seg) → AreSegmentsOf x segs → work_in x board segs ≤ most_in x

-- and a turn of one of the clients does to it what makes rounds end
abbrev pub ServingIsProgress : Type 0
ServingIsProgress = (x : Course) (who : ℕ) (board : Board) (outcome : Outcome) (segs : List Seg) (old : Places) (later : List Seg) (new : Places)
    → AreSegmentsOf x segs → HasServed x who board outcome segs old later new → who < length x.script.clients
    → IsProgress (most_in x) (turned_by outcome) (work_in x board segs) (work_in x board later)
