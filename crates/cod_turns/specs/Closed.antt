-- What callers leave that share the segments, where no order of their turns is known.
use Rattle.std.specs.Prelude.{◌≡◌, ◌⊎◌, ℕ, ◌<◌, ◌≤◌, IsTrue, Some, List, [], length, slice_get, All}
use Rattle.std.specs.List.{AllByRecursion, range_with_len}
use Rattle.cod_types.specs.declared.call.Reply.{Reply}
use Rattle.cod_types.specs.declared.call.Reply.TheVariants.{NoSpare}
use Rattle.cod_types.specs.declared.reasons.Why.{Why}
use Rattle.cod_types.specs.declared.reasons.Why.TheVariants as why
use Rattle.cod_chronicle.specs.declared.entry.Entry.{Entry}
use Rattle.cod_chronicle.specs.declared.entry.Entry.TheVariants.{Call, Down, Up, Move}
use Rattle.cod_chronicle.specs.declared.entry.Cause.TheVariants.{Killed, Fault}
use Rattle.cod_chronicle.specs.Said.{site_as, IsChronicle, number_by}
use Rattle.cod_chronicle.specs.Legal.{IsLegal}
use Rattle.cod_chronicle.specs.Order.{Placed, stamp_at, placed}
use Rattle.cod_chronicle.specs.Whole.{HasStamp, LeavesNoGap, numbers_of}
use Rattle.cod_chronicle.specs.Laws.{AreOwn}
use Rattle.cod_script.specs.declared.line.Line.{Line}
use Rattle.cod_script.specs.Script.{Script, Ask, asks}
use Rattle.cod_script.specs.Owed.{FailsBehind, asked_by, SeesFailsAfter, IsHistory}
use Rattle.cod_chronicle.specs.Event.{NodeKill}
use Rattle.cod_turns.specs.Turns.{Course, board_clock}
use Rattle.cod_script.specs.Sound.{IsScenario}

-- A kill that a caller made, by its `fail` line: its clock is that of the caller at that moment, which is no smaller than the
-- stamps of what the caller had called before.
pub record IsMade (x : Script) (hs : List (List Entry)) (own : ℕ → List Placed) (node : ℕ) (k : NodeKill) : Type 0 where
  pub who : ℕ
  pub front : List Line
  pub behind : FailsBehind x who front k.line node
  pub clock : ℕ
  pub clock_is : k.clock ≡ board_clock clock
  pub stamp : (clock ≡ 0) ⊎ HasStamp (placed hs) clock
  pub covers : (number : ℕ) → number < length (asks front) → AllByRecursion (λ p. number_by who p.entry ≡ Some number → stamp_at p ≤ clock) (own who)

abbrev pub IsMadeWhy : Course → List (List Entry) → (ℕ → List Placed) → ℕ → Why → Type 0
IsMadeWhy x hs own node (why.Down line) = (k : NodeKill) × IsMade x.script hs own node k × (k.line ≡ line)
IsMadeWhy x hs own node (why.Free bytes) = Unit {0}
IsMadeWhy x hs own node (why.Fault count) = (1 ≤ count) × IsTrue (x.may node)

abbrev pub IsMadeReply : Course → List (List Entry) → (ℕ → List Placed) → Reply → Type 0
IsMadeReply x hs own (NoSpare reasons) = All (λ r. IsMadeWhy x hs own r.node.0 r.why) reasons
IsMadeReply x hs own _ = Unit {0}

-- a mark stands after the kill that it tells of, and reasons tell of kills
abbrev pub IsMadeEntry : Course → List (List Entry) → (ℕ → List Placed) → Entry → Type 0
IsMadeEntry x hs own (Call caller number stamp call reply) = IsMadeReply x hs own reply
IsMadeEntry x hs own (Down stamp col node (Killed line)) = (k : NodeKill) × IsMade x.script hs own node.0 k × (k.line ≡ line) × (k.clock < stamp)
IsMadeEntry x hs own (Down stamp col node (Fault count)) = (1 ≤ count) × IsTrue (x.may node.0)
IsMadeEntry x hs own (Up stamp col node) = Unit {0}
IsMadeEntry x hs own (Move stamp col node) = Unit {0}

-- Each segment's chronicle by itself, and of each caller the calls that it made, in its order.
pub record IsClosed (x : Course) (owes : ℕ → List Ask) (hs : List (List Entry)) (own : ℕ → List Placed) : Type 0 where
  pub count : length hs ≡ length x.script.segments
  pub each : (s : ℕ) (h : List Entry) → slice_get hs s ≡ Some h → IsChronicle h × IsLegal (site_as x.told x.script.shape x.script.nodes s) h
  pub sees : (s : ℕ) (h : List Entry) → slice_get hs s ≡ Some h → SeesFailsAfter x.script (site_as x.told x.script.shape x.script.nodes s) [] h
  pub are : (who : ℕ) → AreOwn who hs (own who)
  pub asked : (who : ℕ) → asked_by who (own who) ≡ owes who
  pub numbers : (who : ℕ) → numbers_of who (own who) ≡ range_with_len 0 (length (numbers_of who (own who)))
  pub gaps : LeavesNoGap (placed hs)
  pub made : All (λ p. IsMadeEntry x hs own p.entry) (placed hs)

-- it is one legal history
abbrev pub ClosedIsHistory : Type 0
ClosedIsHistory = (x : Course) (owes : ℕ → List Ask) (hs : List (List Entry)) (own : ℕ → List Placed) → IsScenario x.script → IsClosed x owes hs own
    → IsHistory x.told x.script x.may owes hs
