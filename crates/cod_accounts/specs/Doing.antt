-- What a caller has done: its lines, one after another, and the entries that its calls have.
use Rattle.std.specs.Prelude.{◌≡◌, ℕ, ◌<◌, ◌≤◌, Some, List, [], ◌∷◌, ◌++◌, length, map, slice_get, All}
use Rattle.std.specs.List.{AllByRecursion, filter, range_with_len}
use Rattle.cod_types.specs.declared.call.NodeId.{NodeId}
use Rattle.cod_chronicle.specs.declared.entry.Entry.{Entry}
use Rattle.cod_chronicle.specs.declared.entry.Entry.TheVariants.{Call, Down, Up, Move}
use Rattle.cod_chronicle.specs.Laws.{is_at, Climbs}
use Rattle.cod_chronicle.specs.Order.{Placed, stamp_at, place}
use Rattle.cod_chronicle.specs.Said.{Site, last_stamp, number_by, calls_by}
use Rattle.cod_chronicle.specs.Whole.{numbers_of}
use Rattle.cod_script.specs.declared.line.Line.{Line}
use Rattle.cod_script.specs.declared.line.What.TheVariants.{Fail}
use Rattle.cod_script.specs.Owed.{asked_by, failed_ahead, IsOut}
use Rattle.cod_script.specs.Script.{asks}
use Rattle.cod_board.specs.declared.kill.Kill.{Kill}
use Rattle.cod_seats.specs.Totals.{Has}
use Rattle.cod_turns.specs.Turns.{board_clock}

-- A caller with this next number and this clock, which last saw the segments' lists as these, has done these lines. `own` are its calls, in
-- its order: those that the lines ask for, with the numbers 0, 1, 2 and so on, and with rising stamps up to the clock.
pub record Did (caller number clock : ℕ) (hs : List (List Entry)) (own : List Placed) (trace : List Line) : Type 0 where
  pub asked : asked_by caller own ≡ asks trace
  pub numbers : numbers_of caller own ≡ range_with_len 0 number
  pub there : (s : ℕ) (h : List Entry) → slice_get hs s ≡ Some h → map (λ e. place s e) (calls_by caller h) ≡ filter (is_at s) own
  pub below : AllByRecursion (λ p. stamp_at p ≤ clock) own
  pub climbs : clock < last_stamp → Climbs own
  pub within : AllByRecursion (λ p. p.segment < length hs) own

-- A caller made this kill, by a `fail` line of its own. The kill has the clock that the caller had then, which is no smaller than the
-- stamps of its calls before that line.
pub record HasFailed (caller : ℕ) (own : List Placed) (clocks : List ℕ) (trace : List Line) (node : ℕ) (kill : Kill) : Type 0 where
  pub front : List Line
  pub rest : List Line
  pub at : NodeId
  pub node_is : at.0 ≡ node
  pub lines : trace ≡ front ++ (record { line = kill.line; what = Fail at }) ∷ rest
  pub clock : ℕ
  pub had : Has clock clocks
  pub clock_is : kill.clock ≡ board_clock clock
  pub covers : (number : ℕ) → number < length (asks front) → AllByRecursion (λ p. number_by caller p.entry ≡ Some number → stamp_at p ≤ clock) own

-- at a call of this caller, the nodes that it failed ahead of it are out
abbrev pub SeesOwnFails : (caller : ℕ) (trace : List Line) (site : Site) (before : List Entry) → Entry → Type 0
SeesOwnFails who trace site before (Call caller number stamp call reply) = caller.0 ≡ who → All (IsOut site before) (failed_ahead trace number)
SeesOwnFails who trace site before (Down stamp col node cause) = Unit {0}
SeesOwnFails who trace site before (Up stamp col node) = Unit {0}
SeesOwnFails who trace site before (Move stamp col node) = Unit {0}

abbrev pub SeesOwnFailsAfter : (caller : ℕ) (trace : List Line) (site : Site) (before : List Entry) → List Entry → Type 0
SeesOwnFailsAfter who trace site before [] = Unit {0}
SeesOwnFailsAfter who trace site before (e ∷ h) = SeesOwnFails who trace site before e × SeesOwnFailsAfter who trace site (before ++ e ∷ []) h
