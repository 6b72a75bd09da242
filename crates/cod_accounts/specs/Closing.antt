-- What passes and the segments that they shared leave at the end.
use Rattle.std.specs.Prelude.{◌≡◌, ◌⊎◌, ℕ, ◌+◌, ◌<◌, ◌≤◌, Bool, false, Some, Option, List, [], ◌∷◌, length, map, slice_get}
use Rattle.std.specs.List.{AllByRecursion, filter_map, range_with_len}
use Rattle.cod_chronicle.specs.declared.entry.Entry.{Entry}
use Rattle.cod_chronicle.specs.Legal.{IsLegal}
use Rattle.cod_chronicle.specs.Order.{Placed}
use Rattle.cod_chronicle.specs.Said.{site_as, clock_of, last_stamp, IsChronicle}
use Rattle.cod_chronicle.specs.Standing.{OpenCalls}
use Rattle.cod_script.specs.declared.line.Line.{Line}
use Rattle.cod_script.specs.Owed.{is_fail, has_fail, care_ask, owed_with_care, IsHistory}
use Rattle.cod_script.specs.Script.{Script, Ask, asks, lines_by}
use Rattle.cod_script.specs.Sound.{IsScenario}
use Rattle.cod_board.specs.declared.kill.Kill.{Kill}
use Rattle.cod_board.specs.declared.view.View.{View as BoardView}
use Rattle.cod_board.specs.Kills.{kill_of}
use Rattle.cod_board.specs.Seats.{IsClosed as IsClosedBoard}
use Rattle.cod_board.specs.Words.{both_of as both_boards}
use Rattle.cod_seats.specs.Totals.{Has, times, once_below}
use Rattle.cod_turn.specs.declared.view.View.{View}
use Rattle.cod_turn.specs.Turning.{Stays, Meets, both_of}
use Rattle.cod_turns.specs.Closed.{IsClosed}
use Rattle.cod_turns.specs.Turns.{Course}
use Rattle.cod_accounts.specs.Accounts.{HasCause}
use Rattle.cod_accounts.specs.Holding.{kills_at}
use Rattle.cod_accounts.specs.Working.{Pass, Worked}

-- no line fails a node
abbrev pub HasNoFail : List Line → Type 0
HasNoFail lines = AllByRecursion (λ l. is_fail l ≡ false) lines

-- no caller owes anything but the clients and the care workers
abbrev pub OthersOweNothing : Type 0
OthersOweNothing = (x : Script) (c : ℕ) → length x.clients + x.workers ≤ c → owed_with_care x c ≡ []

module _ {T : Type 0} where
  -- The board at the end: it has each kill that a pass has seen, and each kill on it is one that a pass made.
  pub record ClosedBoard (passes : List (Pass T)) (kills : List (Option Kill)) : Type 0 where
    pub seen : (c : ℕ) (p : Pass T) (node : ℕ) (kill : Kill) → slice_get passes c ≡ Some p → Has (node, kill) p.board.seen → kill_of kills node ≡ Some kill
    pub made : (node : ℕ) (kill : Kill) → kill_of kills node ≡ Some kill → (c : ℕ) × (p : Pass T) × (slice_get passes c ≡ Some p) × Has (node, kill) p.board.made

  -- An entry was added by a pass, and has its cause: the kill that a mark or a reason tells of is on the board, and a mark's stamp is
  -- greater than its kill's clock, or is the greatest there is.
  abbrev pub IsCaused : (passes : List (Pass T)) (kills : List (Option Kill)) (may : ℕ → Bool) → Entry → Type 0
  IsCaused passes kills may e = (c : ℕ) × (p : Pass T) × (slice_get passes c ≡ Some p) × HasCause p.caller (kills_at kills) may e

  -- views of seats of a turn that were joined to one, in order
  abbrev pub joined : View T → List (View T) → View T
  joined v [] = v
  joined v (w ∷ ws) = joined (both_of v w) ws

  -- the passes' seats of a segment
  abbrev pub seats_at : (segment : ℕ) → List (Pass T) → List (View T)
  seats_at s passes = filter_map (λ p. slice_get p.seats s) passes

  -- a seat of the board to which those of the passes were joined, in order
  abbrev pub joined_board : BoardView → List (Pass T) → BoardView
  joined_board v [] = v
  joined_board v (p ∷ ps) = joined_board (both_boards v p.board) ps

module _ (T : Type 0) where
  -- A board is closed so by a seat that made no kill, to which those of all passes were joined.
  abbrev pub JoinedBoardCloses : Type 0
  JoinedBoardCloses = (nodes : ℕ) (rest : BoardView) (passes : List (Pass T)) (kills : List (Option Kill)) → rest.made ≡ []
      → IsClosedBoard nodes (joined_board rest passes) kills → ClosedBoard passes kills

-- Values that have a list of entries and open calls
module _ {T : Type 0} (log : T → List Entry) (opened : T → OpenCalls) where
  -- a pass has worked some lines, and may have been told stamps
  pub record HasWorked (x : Course) (p : Pass T) : Type 0 where
    pub met : Bool
    pub trace : List Line
    pub worked : Worked log opened x met p trace

  -- The pass of a caller has worked what the caller owes: a client its lines, and a caller with no line in the scenario calls alone.
  pub record Fulfils (x : Course) (owes : ℕ → List Ask) (c : ℕ) (p : Pass T) : Type 0 where
    pub caller : p.caller ≡ c
    pub seats : length p.seats ≡ length x.script.segments
    pub trace : List Line
    pub owed : asks trace ≡ owes c
    pub lines : (trace ≡ lines_by x.script c) ⊎ ((lines_by x.script c ≡ []) × HasNoFail trace)
    pub worked : Worked log opened x false p trace

  -- a client's pass that has worked the client's lines
  abbrev pub ClientFulfils : Type 0
  ClientFulfils = (x : Course) (c : ℕ) (p : Pass T) → c < length x.script.clients → p.caller ≡ c → length p.seats ≡ length x.script.segments → Worked log opened x false p (lines_by x.script c)
      → Fulfils x (owed_with_care x.script) c p

  -- a care worker's pass that has worked its rounds
  abbrev pub WorkerFulfils : Type 0
  WorkerFulfils = (x : Course) (worker : ℕ) (p : Pass T) (trace : List Line) → worker < x.script.workers → p.caller ≡ length x.script.clients + worker → length p.seats ≡ length x.script.segments
      → asks trace ≡ map (care_ask worker x.script.workers (length x.script.segments) (has_fail x.script)) (range_with_len 0 x.script.rounds) → HasNoFail trace
      → Worked log opened x false p trace → Fulfils x (owed_with_care x.script) (length x.script.clients + worker) p

-- Values that stand for chronicles
module _ {T : Type 0} (name : T → List ℕ) (log : T → List Entry) (opened : T → OpenCalls) where
  -- A segment's value at the end: its list begins with what each pass last saw there, it has no further calls of the pass's caller, and
  -- each place was added by a pass.
  pub record ClosedSegment (x : Course) (passes : List (Pass T)) (s : ℕ) (now : T) : Type 0 where
    pub stays : (c : ℕ) (p : Pass T) (v : View T) → slice_get passes c ≡ Some p → slice_get p.seats s ≡ Some v → Stays name log opened now v.own
    pub added : (place : ℕ) → place < length (log now) → (c : ℕ) × (p : Pass T) × (v : View T) × (slice_get passes c ≡ Some p) × (slice_get p.seats s ≡ Some v) × (0 < times place v.places)
    pub legal : IsLegal (site_as x.told x.script.shape x.script.nodes s) (log now)
    pub chronicle : IsChronicle (log now)

  -- The passes, one of each caller, have worked what their callers owe, no other caller owes anything, and the segments and the board
  -- were closed. No stamp is the greatest there is.
  pub record AllClosed (x : Course) (owes : ℕ → List Ask) (passes : List (Pass T)) (values : List T) (kills : List (Option Kill)) : Type 0 where
    pub count : length values ≡ length x.script.segments
    pub fulfils : (c : ℕ) (p : Pass T) → slice_get passes c ≡ Some p → Fulfils log opened x owes c p
    pub others : (c : ℕ) → length passes ≤ c → owes c ≡ []
    pub segments : (s : ℕ) (now : T) → slice_get values s ≡ Some now → ClosedSegment x passes s now
    pub board : ClosedBoard passes kills
    pub small : (s : ℕ) (now : T) → slice_get values s ≡ Some now → clock_of (log now) < last_stamp

  -- A turn is closed so by a seat that added no place, to which the passes' seats of the segment were joined.
  abbrev pub JoinedSeatsClose : Type 0
  JoinedSeatsClose = (x : Course) (passes : List (Pass T)) (s : ℕ) (rest : View T) (now : T) → rest.places ≡ []
      → Meets name log opened (joined rest (seats_at s passes)) now → ((p : ℕ) → times p (joined rest (seats_at s passes)).places ≡ once_below p (length (log now)))
      → IsLegal (site_as x.told x.script.shape x.script.nodes s) (log now) → IsChronicle (log now) → ClosedSegment x passes s now

  -- Whatever passes have worked, each entry at the end has its cause.
  abbrev pub EntriesAreCaused : Type 0
  EntriesAreCaused = (x : Course) (passes : List (Pass T)) (values : List T) (kills : List (Option Kill))
      → ((c : ℕ) (p : Pass T) → slice_get passes c ≡ Some p → HasWorked log opened x p)
      → ((s : ℕ) (now : T) → slice_get values s ≡ Some now → ClosedSegment x passes s now) → ClosedBoard passes kills
      → (s : ℕ) (now : T) → slice_get values s ≡ Some now → AllByRecursion (IsCaused passes kills x.may) (log now)

  -- What passes have worked is what callers leave that share the segments.
  abbrev pub WorkedIsClosed : Type 0
  WorkedIsClosed = (x : Course) (owes : ℕ → List Ask) (passes : List (Pass T)) (values : List T) (kills : List (Option Kill))
      → AllClosed x owes passes values kills → (own : ℕ → List Placed) × IsClosed x owes (map log values) own

  -- So it is one legal history of the scenario.
  abbrev pub WorkedIsHistory : Type 0
  WorkedIsHistory = (x : Course) (owes : ℕ → List Ask) (passes : List (Pass T)) (values : List T) (kills : List (Option Kill))
      → IsScenario x.script → AllClosed x owes passes values kills → IsHistory x.told x.script x.may owes (map log values)
