-- What holds at each moment of a run, and what a turn finds there: its line, its slip and room for its entries.
use Rattle.std.specs.Prelude.{◌≡◌, ◌≢◌, ℕ, ◌+◌, ◌<◌, ◌^◌, true, false, Option, None, Some, List, length}
use Rattle.cod_types.specs.declared.call.Call.{Call as Asked}
use Rattle.cod_types.specs.declared.call.Call.TheVariants.{Upgrade}
use Rattle.cod_types.specs.declared.call.SegId.{SegId}
use Rattle.cod_board.specs.declared.kill.Kill.{Kill as Killed}
use Rattle.cod_chronicle.specs.Event.{Kills as Board}
use Rattle.cod_claims.specs.Slips.{Paper, prepared}
use Rattle.cod_script.specs.declared.line.Line.{Line}
use Rattle.cod_script.specs.declared.line.What.TheVariants.{Segment}
use Rattle.cod_script.specs.Script.{asks, Script}
use Rattle.cod_script.specs.Sound.{IsLine, IsScenario}
use Rattle.cod_seg.specs.Next.{open_in}
use Rattle.cod_seg.specs.Seg.{Seg}
use Rattle.cod_segment.specs.declared.asking.Outcome.{Outcome}
use Rattle.cod_segment.specs.Events.{HasBegun, HasRoom, IsAsked}
use Rattle.cod_turns.specs.Turns.{Course, is_answered, IsLineAt, start, Turn, Turns}
use Rattle.cod_turns.specs.declared.turned.Turned.{Turned}
use Rattle.cod_advance.specs.Served.{turned_by}
use Rattle.cod_advance.specs.Worlds.{AreSegmentsOf, HasFailed, HasServed, IsAtFirst, Places, seg_at, world_of}

-- A moment of a run: some turns have led there from the start, with these segments, board and clients.
pub record IsMoment (x : Course) (segs : List Seg) (board : Board) (places : Places) : Type 0 where
  pub turns : List ℕ
  pub led : Turns x turns (start (length x.script.segments)) (world_of segs board places)
  pub are : AreSegmentsOf x segs

-- at first, and after each turn that leaves segments of the course
abbrev pub FirstIsMoment : Type 0
FirstIsMoment = (x : Course) (segs : List Seg) (board : Board) (places : Places) → IsAtFirst segs board places → AreSegmentsOf x segs
    → IsMoment x segs board places

abbrev pub TurnLeadsOn : Type 0
TurnLeadsOn = (x : Course) (who : ℕ) (turned : Turned) (segs : List Seg) (board : Board) (old : Places) (later : List Seg) (after : Board) (new : Places)
    → IsMoment x segs board old → Turn x who (world_of segs board old) (world_of later after new) turned → AreSegmentsOf x later
    → IsMoment x later after new

-- ---- lines

-- a line of a scenario names a segment or a node that is there
abbrev pub LineIsThere : Type 0
LineIsThere = (x : Script) (who i : ℕ) (l : Line) → IsScenario x → IsLineAt x who i l → IsLine x.nodes (length x.segments) l

-- and the number of its call is below 2^32, also with one more
abbrev pub NumberIsSmall : Type 0
NumberIsSmall = (x : Script) (who i : ℕ) (l : Line) (at : IsLineAt x who i l) → IsScenario x → length (asks at.front) + 1 < 2 ^ 32

-- ---- room

-- there is room for more entries than an event and two sweeps make
abbrev pub MomentHasRoom : Type 0
MomentHasRoom = (x : Course) (segs : List Seg) (board : Board) (places : Places) (i : ℕ) → IsScenario x.script → IsMoment x segs board places
    → i < length segs → HasRoom (x.script.shape.n + 2) (seg_at segs i)

-- ---- slips

-- A client's slip for its call: whole while the client has nothing open at the segment, and else begun.
pub record IsSlipFor (s : Seg) (who : ℕ) (call : Asked) (p : Paper) : Type 0 where
  pub whole : open_in s who ≡ None → p ≡ prepared s.site.shape call
  pub begun : (opened : ℕ × Asked) → open_in s who ≡ Some opened → HasBegun p call

-- each client that has come to a segment call has such a slip
pub record AreSlips (x : Course) (segs : List Seg) (places : Places) (slips : ℕ → Paper) : Type 0 where
  pub each : (who line : ℕ) (seg : SegId) (call : Asked) → IsLineAt x.script who (places.next who) (record { line = line; what = Segment seg call })
      → IsSlipFor (seg_at segs seg.0) who call (slips who)

-- what an event asks of its slip
abbrev pub SlipIsAsked : Type 0
SlipIsAsked = (x : Course) (segs : List Seg) (board : Board) (places : Places) (who line : ℕ) (seg : SegId) (call : Asked) (p : Paper)
    → IsScenario x.script → IsMoment x segs board places
    → (at : IsLineAt x.script who (places.next who) (record { line = line; what = Segment seg call }))
    → IsSlipFor (seg_at segs seg.0) who call p → IsAsked (seg_at segs seg.0) who (length (asks at.front)) p call

-- a slip that is whole for the call that the client has come to, if it is a segment's
abbrev pub IsWholeSlip : (x : Script) (who i : ℕ) → Paper → Type 0
IsWholeSlip x who i p = (line : ℕ) (seg : SegId) (call : Asked) → IsLineAt x who i (record { line = line; what = Segment seg call })
    → p ≡ prepared x.shape call

-- at first each slip is whole
abbrev pub FirstHasSlips : Type 0
FirstHasSlips = (x : Course) (segs : List Seg) (board : Board) (places : Places) (slips : ℕ → Paper) → IsScenario x.script → IsAtFirst segs board places
    → AreSegmentsOf x segs → ((who : ℕ) → IsWholeSlip x.script who 0 (slips who)) → AreSlips x segs places slips

-- After a client's event of its call its slip is as the event leaves it, or, where it was answered, the whole one for its next call.
pub record SlipsGoOn (x : Course) (who : ℕ) (board : Board) (outcome : Outcome) (segs : List Seg) (old : Places) (later : List Seg) (new : Places)
    (served : HasServed x who board outcome segs old later new) (slips after : ℕ → Paper) : Type 0 where
  pub own : slips who ≡ served.slip
  pub goes_on : is_answered (turned_by outcome) ≡ false → after who ≡ served.slip_after
  pub next : is_answered (turned_by outcome) ≡ true → IsWholeSlip x.script who (new.next who) (after who)
  pub others : (c : ℕ) → c ≢ who → after c ≡ slips c

abbrev pub ServingKeepsSlips : Type 0
ServingKeepsSlips = (x : Course) (who : ℕ) (board : Board) (outcome : Outcome) (segs : List Seg) (old : Places) (later : List Seg) (new : Places)
    (served : HasServed x who board outcome segs old later new) (slips after : ℕ → Paper) → IsScenario x.script → IsMoment x segs board old
    → AreSlips x segs old slips → SlipsGoOn x who board outcome segs old later new served slips after → AreSlips x later new after

-- after a node's failure its client has the whole slip for its next call
abbrev pub FailingKeepsSlips : Type 0
FailingKeepsSlips = (x : Course) (who : ℕ) (segs : List Seg) (board : Board) (kills killed : List (Option Killed)) (old new : Places) (slips after : ℕ → Paper)
    → IsScenario x.script → IsMoment x segs board old → HasFailed x.script who kills old killed new → AreSlips x segs old slips
    → IsWholeSlip x.script who (new.next who) (after who) → ((c : ℕ) → c ≢ who → after c ≡ slips c) → AreSlips x segs new after
