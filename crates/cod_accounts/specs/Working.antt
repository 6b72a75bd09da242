-- What a pass is seen as, and what it has worked.
use Rattle.std.specs.Prelude.{◌≡◌, ◌⊎◌, ℕ, ◌+◌, ◌<◌, ◌≤◌, Bool, true, false, Some, None, Option, List, [], ◌∷◌, ◌++◌, length, map, slice_get, slice_set, All}
use mathlib.Core.List.{IsPrefix}
use Rattle.cod_types.specs.declared.call.Call.{Call as Asked}
use Rattle.cod_types.specs.declared.call.NodeId.{NodeId}
use Rattle.cod_types.specs.declared.call.Reply.{Reply}
use Rattle.cod_types.specs.declared.call.SegId.{SegId}
use Rattle.cod_chronicle.specs.declared.entry.Entry.{Entry}
use Rattle.cod_chronicle.specs.Event.{Kills}
use Rattle.cod_chronicle.specs.Order.{Placed}
use Rattle.cod_chronicle.specs.Said.{Site, site_as, numbers_by}
use Rattle.cod_chronicle.specs.Standing.{OpenCalls}
use Rattle.cod_script.specs.declared.line.Line.{Line}
use Rattle.cod_script.specs.declared.line.What.TheVariants.{Segment, Fail}
use Rattle.cod_script.specs.Owed.{failed_ahead}
use Rattle.cod_script.specs.Script.{asks}
use Rattle.cod_board.specs.declared.kill.Kill.{Kill}
use Rattle.cod_board.specs.declared.view.View.{View as BoardView}
use Rattle.cod_board.specs.Seats.{kills_in}
use Rattle.cod_board.specs.Words.{known, after_kill}
use Rattle.cod_seats.specs.Totals.{Has}
use Rattle.cod_turn.specs.declared.view.View.{View}
use Rattle.cod_turns.specs.Turns.{Course, board_clock}
use Rattle.cod_accounts.specs.Accounts.{Account, Accounts, StampIn}
use Rattle.cod_accounts.specs.Calling.{Made}
use Rattle.cod_accounts.specs.Doing.{Did, HasFailed, SeesOwnFailsAfter}
use Rattle.cod_accounts.specs.Holding.{Ground, kills_at}

-- A pass: its caller, the number of its next call, its clock, what its seats know of the segments' turns, one of each segment, and what
-- its seat of the board knows.
pub record Pass (T : Type 0) : Type 0 where
  pub caller : ℕ
  pub number : ℕ
  pub clock : ℕ
  pub seats : List (View T)
  pub board : BoardView

-- where a course's segment is, and where its regions may fail
abbrev pub ground_of : Course → ℕ → Ground
ground_of x s = record { site = site_as x.told x.script.shape x.script.nodes s; may = x.may }

-- What a pass knows by which it accounts for its entries: its caller, the kills, where regions may fail, and the clocks that it had.
pub record Knowing : Type 0 where
  pub caller : ℕ
  pub kills : Kills
  pub may : ℕ → Bool
  pub clocks : List ℕ

-- the account of an entry by a call that began with one of these clocks
abbrev pub Told : Knowing → List Entry → Entry → Type 0
Told k before e = (t : ℕ) × Has t k.clocks × Account k.caller k.kills k.may t before e

-- a clock is 0, or one of these entries has it as its stamp
abbrev pub IsReal : List (List Entry) → ℕ → Type 0
IsReal hs t = (t ≡ 0) ⊎ ((s : ℕ) × (h : List Entry) × (slice_get hs s ≡ Some h) × StampIn h t)

-- a node that is known as killed
pub record IsKilled (nodes : ℕ) (seen : List (ℕ × Kill)) (node : ℕ) : Type 0 where
  pub inside : node < nodes
  pub kill : Kill
  pub is : known node seen ≡ Some kill

module _ {T : Type 0} where
  abbrev pub knowing : Course → Pass T → (clocks : List ℕ) → Knowing
  knowing x p clocks = record { caller = p.caller; kills = kills_at (kills_in x.script.nodes p.board.seen); may = x.may; clocks = clocks }

  -- q is the pass p after the kill of a node by this line; `found` is the kill that the node had before
  abbrev pub HasKilled : (line node : ℕ) (found : Option Kill) (p q : Pass T) → Type 0
  HasKilled line node found p q = q ≡ record p { board = after_kill p.board node (record { line = line; clock = board_clock p.clock }) found }

  -- q is the pass p after it was told a stamp
  abbrev pub HasMet : (p q : Pass T) → Type 0
  HasMet p q = (t : ℕ) × (p.clock ≤ t) × (q ≡ record p { clock = t })

-- Values that have a list of entries
module _ {T : Type 0} (log : T → List Entry) where
  -- the list as the first of these callers last saw it
  abbrev pub first_list : List (ℕ × T) → List Entry
  first_list [] = []
  first_list (p ∷ ps) = log p.1

  -- the lists as a pass last saw them
  abbrev pub lists_of : List (View T) → List (List Entry)
  lists_of seats = map (λ v. first_list v.own) seats

  -- What a seat has to show: each entry that it added has its account, and each call of its caller saw the failures ahead of it.
  pub record Shows (k : Knowing) (trace : List Line) (site : Site) (v : View T) : Type 0 where
    pub told : Accounts (Told k) (first_list v.own) [] v.places
    pub sees : SeesOwnFailsAfter k.caller trace site [] (first_list v.own)

-- Values that have open calls too
module _ {T : Type 0} (log : T → List Entry) (opened : T → OpenCalls) where
  -- A seat between two calls: it holds nothing, it has this one caller, which has nothing open there, and whose numbers there are below
  -- its next.
  pub record IsReady (caller number : ℕ) (v : View T) : Type 0 where
    pub idle : v.hold ≡ None
    pub last : T
    pub own : v.own ≡ (caller, last) ∷ []
    pub none : opened last caller ≡ None
    pub low : All (λ m. m < number) (numbers_by caller (log last))

  -- each seat of a pass is one between two calls
  abbrev pub AreReady : Pass T → Type 0
  AreReady p = (s : ℕ) (v : View T) → slice_get p.seats s ≡ Some v → IsReady p.caller p.number v

  -- A pass has worked these lines. `met` says whether it was told a stamp that no entry that it saw has.
  pub record Worked (x : Course) (met : Bool) (p : Pass T) (trace : List Line) : Type 0 where
    pub own : List Placed
    pub clocks : List ℕ
    pub did : Did p.caller p.number p.clock (lists_of log p.seats) own trace
    pub count : p.number ≡ length (asks trace)
    pub ready : AreReady p
    pub shows : (s : ℕ) (v : View T) → slice_get p.seats s ≡ Some v → Shows log (knowing x p clocks) trace (site_as x.told x.script.shape x.script.nodes s) v
    pub made : (node : ℕ) (kill : Kill) → Has (node, kill) p.board.made → HasFailed p.caller own clocks trace node kill
    pub failed : All (IsKilled x.script.nodes p.board.seen) (failed_ahead trace p.number)
    pub real : met ≡ false → (t : ℕ) → Has t (p.clock ∷ clocks) → IsReal (lists_of log p.seats) t

  -- a pass that has done nothing, with seats of new segments and of a new board
  pub record IsNew (p : Pass T) : Type 0 where
    pub number : p.number ≡ 0
    pub clock : p.clock ≡ 0
    pub ready : AreReady p
    pub empty : (s : ℕ) (v : View T) → slice_get p.seats s ≡ Some v → (first_list log v.own ≡ []) × (v.places ≡ [])
    pub made : p.board.made ≡ []

  -- q is the pass p after this call on a segment, by the lists and kills that its seats have seen
  pub record HasCalled (x : Course) (seg : ℕ) (call : Asked) (position stamp : ℕ) (reply : Reply) (p q : Pass T) : Type 0 where
    pub before : View T
    pub after : View T
    pub seat : slice_get p.seats seg ≡ Some before
    pub idle : after.hold ≡ None
    pub made : Made log opened (ground_of x seg) (record { caller = p.caller; number = p.number; call = call }) p.clock q.clock p.board.seen q.board.seen before after position stamp reply
    pub caller : q.caller ≡ p.caller
    pub number : q.number ≡ p.number + 1
    pub seats : q.seats ≡ slice_set p.seats seg after
    pub seen : IsPrefix p.board.seen q.board.seen
    pub kills : q.board.made ≡ p.board.made

  -- ---- laws

  -- a call leaves the seats ready for the next one
  abbrev pub CallLeavesReady : Type 0
  CallLeavesReady = (x : Course) (seg : SegId) (call : Asked) (position stamp : ℕ) (reply : Reply) (p q : Pass T) → AreReady p → HasCalled x seg.0 call position stamp reply p q → AreReady q

  -- a new pass has worked nothing
  abbrev pub NewHasWorked : Type 0
  NewHasWorked = (x : Course) (p : Pass T) → IsNew p → Worked x false p []

  -- a call is one line more
  abbrev pub CallIsLine : Type 0
  CallIsLine = (x : Course) (met : Bool) (line : ℕ) (seg : SegId) (call : Asked) (position stamp : ℕ) (reply : Reply) (p q : Pass T) (trace : List Line)
      → Worked x met p trace → HasCalled x seg.0 call position stamp reply p q → Worked x met q (trace ++ (record { line = line; what = Segment seg call }) ∷ [])

  -- so is the kill of a node that there is
  abbrev pub KillIsLine : Type 0
  KillIsLine = (x : Course) (met : Bool) (line : ℕ) (node : NodeId) (found : Option Kill) (p q : Pass T) (trace : List Line)
      → node.0 < x.script.nodes → Worked x met p trace → HasKilled line node.0 found p q → Worked x met q (trace ++ (record { line = line; what = Fail node }) ∷ [])

  -- A pass that is told a stamp has worked what it had, but from then on its clock may be none that an entry has.
  abbrev pub MeetingKeeps : Type 0
  MeetingKeeps = (x : Course) (met : Bool) (p q : Pass T) (trace : List Line) → Worked x met p trace → HasMet p q → Worked x true q trace
