-- The turns of a run: each is one event of one client.
use Rattle.std.specs.Prelude.{◌≡◌, ◌≢◌, ◌↔◌, ℕ, ◌+◌, ◌≤◌, ◌^◌, ◌==◌, nat_lt, if◌then◌else◌, Bool, true, false, Option, Some, None, List, [], ◌∷◌, ◌++◌, length}
use Rattle.std.specs.Prelude.{replicate, slice_get, slice_set}
use Rattle.cod_types.specs.declared.call.NodeId.{NodeId}
use Rattle.cod_types.specs.declared.call.SegId.{SegId}
use Rattle.cod_types.specs.declared.call.Call.{Call as Asked}
use Rattle.cod_chronicle.specs.declared.entry.Entry.{Entry}
use Rattle.cod_chronicle.specs.Said.{site_as}
use Rattle.cod_chronicle.specs.Standing.{OpenCalls}
use Rattle.cod_chronicle.specs.Event.{NodeKill, Kills as Board, Setting, Request}
use Rattle.cod_chronicle.specs.Sweep.{Proceeds}
use Rattle.cod_script.specs.declared.line.Line.{Line}
use Rattle.cod_script.specs.declared.line.What.TheVariants.{Segment, Fail}
use Rattle.cod_script.specs.Script.{Script, asks, lines_by}
use Rattle.cod_turns.specs.declared.turned.Turned.{Turned}
use Rattle.cod_turns.specs.declared.turned.Turned.TheVariants.{Ended, Killed, Held, Moved, Answered}

-- What a run has: each segment's chronicle, what each caller has open at each segment, the kill of each node that was killed, and of
-- each client its next line and its clock.
pub record World : Type 0 where
  pub chronicles : List (List Entry)
  pub opened : (segment : ℕ) → OpenCalls
  pub board : Board
  pub next : ℕ → ℕ
  pub clock : ℕ → ℕ

-- at first
abbrev pub start : (segments : ℕ) → World
start segments = record { chronicles = replicate segments []; opened = λ s c. None; board = λ x. None; next = λ c. 0; clock = λ c. 0 }

-- What a run is of: its scenario, on which nodes the shelf may fail, and whether the regions tell what they hold.
pub record Course : Type 0 where
  pub script : Script
  pub may : ℕ → Bool
  pub told : Bool

-- this line stands at this place among a client's lines
pub record IsLineAt (x : Script) (who i : ℕ) (l : Line) : Type 0 where
  pub front : List Line
  pub rest : List Line
  pub lines : lines_by x who ≡ front ++ l ∷ rest
  pub place : length front ≡ i

-- all other clients stay where they are
abbrev pub OthersStay : (who : ℕ) → World → World → Type 0
OthersStay who w v = (c : ℕ) → c ≢ who → (v.next c ≡ w.next c) × (v.clock c ≡ w.clock c)

-- what is open stays, but for this caller's at this segment
abbrev pub OthersStayOpen : (who segment : ℕ) → World → World → Type 0
OthersStayOpen who segment w v =
    ((s c : ℕ) → s ≢ segment → v.opened s c ≡ w.opened s c) × ((c : ℕ) → c ≢ who → v.opened segment c ≡ w.opened segment c)

-- where an event of a segment goes on, and what its board knows: all kills, and none comes to it meanwhile
abbrev pub setting : Course → World → (segment : ℕ) → Setting
setting x w s = record { site = site_as x.told x.script.shape x.script.nodes s; known = w.board; seen = w.board; may = x.may }

abbrev pub is_held : Turned → Bool
is_held (Held owner number) = true
is_held _ = false

abbrev pub is_answered : Turned → Bool
is_answered (Answered position stamp) = true
is_answered _ = false

-- a client's call behind these of its lines: its number is how many segment calls they have
abbrev pub request_of : (who : ℕ) (front : List Line) → Asked → Request
request_of who front call = record { caller = who; number = length (asks front); call = call }

-- how far a client is after an event of its segment call
abbrev pub line_after : ℕ → (answered : Bool) → ℕ
line_after i answered = if answered then i + 1 else i

-- another caller has a call of this number open
pub record IsHolder (was : OpenCalls) (who owner number : ℕ) : Type 0 where
  pub other : owner ≢ who
  pub call : Asked
  pub holds : was owner ≡ Some (number, call)

-- What came of a caller's call: it waits for the call that another caller has open, and has nothing open itself; or it is open now; or it
-- isn't, and its entry is the last, at this place, with this stamp, which is the caller's clock then.
abbrev pub Comes : (r : Request) (after : ℕ) (now : List Entry) (was is : OpenCalls) → Turned → Type 0
Comes r after now was is (Held owner number) = (was r.caller ≡ None) × (is r.caller ≡ None) × IsHolder was r.caller owner.0 number
Comes r after now was is Moved = is r.caller ≡ Some (r.number, r.call)
Comes r after now was is (Answered position stamp) = (is r.caller ≡ None) × (position + 1 ≡ length now) × (stamp ≡ after)
Comes r after now was is _ = ⊥

-- A client's turn with a segment call: its segment has one event, first the sweep, and nothing more where the call is held.
pub record Serves (x : Course) (who : ℕ) (w v : World) (turned : Turned) : Type 0 where
  pub line : ℕ
  pub seg : SegId
  pub call : Asked
  pub at : IsLineAt x.script who (w.next who) (record { line = line; what = Segment seg call })
  pub h : List Entry
  pub entries : List Entry
  pub there : slice_get w.chronicles seg.0 ≡ Some h
  pub event : Proceeds (setting x w seg.0) (request_of who at.front call) h (w.clock who) entries (v.clock who) (is_held turned) (is_answered turned)
  pub grown : v.chronicles ≡ slice_set w.chronicles seg.0 (h ++ entries)
  pub comes : Comes (request_of who at.front call) (v.clock who) (h ++ entries) (w.opened seg.0) (v.opened seg.0) turned
  pub next : v.next who ≡ line_after (w.next who) (is_answered turned)
  pub board : v.board ≡ w.board
  pub others : OthersStay who w v
  pub others_open : OthersStayOpen who seg.0 w v

-- a kill keeps the clock of its client where that has 32 bits
abbrev pub board_clock : ℕ → ℕ
board_clock t = if nat_lt t (2 ^ 32) then t else 0

-- the first kill of a node stays
abbrev pub kept : Option NodeKill → NodeKill → Option NodeKill
kept None k = Some k
kept (Some old) k = Some old

abbrev pub killed : Board → (node : ℕ) → NodeKill → Board
killed board x k y = if y == x then kept (board y) k else board y

-- a client's turn with a `fail` line
pub record Kills (x : Script) (who : ℕ) (w v : World) : Type 0 where
  pub line : ℕ
  pub node : NodeId
  pub at : IsLineAt x who (w.next who) (record { line = line; what = Fail node })
  pub board : (y : ℕ) → v.board y ≡ killed w.board node.0 (record { line = line; clock = board_clock (w.clock who) }) y
  pub next : v.next who ≡ w.next who + 1
  pub clock : v.clock who ≡ w.clock who
  pub same : v.chronicles ≡ w.chronicles
  pub others : OthersStay who w v
  pub opened : v.opened ≡ w.opened

-- a client's turn with no line left: nothing changes
pub record Ends (x : Script) (who : ℕ) (w v : World) : Type 0 where
  pub ended : length (lines_by x who) ≤ w.next who
  pub same : v ≡ w

-- One turn of a client, and what it came to.
abbrev pub Turn : Course → (who : ℕ) → World → World → Turned → Type 0
Turn x who w v Ended = Ends x.script who w v
Turn x who w v Killed = Kills x.script who w v
Turn x who w v (Held owner number) = Serves x who w v (Held owner number)
Turn x who w v Moved = Serves x who w v Moved
Turn x who w v (Answered position stamp) = Serves x who w v (Answered position stamp)

-- The outcome tells of the client's line: none is left exactly where it ended, and it is a node's failure exactly where one was killed.
pub record TellsOfLine (x : Script) (who : ℕ) (w : World) (turned : Turned) : Type 0 where
  pub ended : (turned ≡ Ended) ↔ (length (lines_by x who) ≤ w.next who)
  pub killed : (turned ≡ Killed) ↔ ((line : ℕ) × (node : NodeId) × IsLineAt x who (w.next who) (record { line = line; what = Fail node }))

abbrev pub TurnTellsOfLine : Type 0
TurnTellsOfLine = (x : Course) (who : ℕ) (w v : World) (turned : Turned) → Turn x who w v turned → TellsOfLine x.script who w turned

-- turns of these clients, one after another
abbrev pub Turns : Course → List ℕ → World → World → Type 0
Turns x [] w v = v ≡ w
Turns x (who ∷ rest) w v = (u : World) × (turned : Turned) × Turn x who w u turned × Turns x rest u v

-- each client has done its lines
abbrev pub AllEnded : Script → World → Type 0
AllEnded x w = (who : ℕ) → length (lines_by x who) ≤ w.next who
