-- What is open in a run.
use Rattle.std.specs.Prelude.{◌≡◌, ℕ, Some, None, List, length}
use Rattle.cod_types.specs.declared.call.SegId.{SegId}
use Rattle.cod_types.specs.declared.call.Call.{Call as Asked}
use Rattle.cod_script.specs.declared.line.What.TheVariants.{Segment}
use Rattle.cod_script.specs.Script.{Script, asks}
use Rattle.cod_turns.specs.Turns.{World, Course, IsLineAt, start, Turns, AllEnded}

-- this is the call of the line that the client has come to, at that line's segment, with its number
pub record IsItsCall (x : Script) (w : World) (who segment number : ℕ) (call : Asked) : Type 0 where
  pub line : ℕ
  pub seg : SegId
  pub at : IsLineAt x who (w.next who) (record { line = line; what = Segment seg call })
  pub segment_is : seg.0 ≡ segment
  pub number_is : number ≡ length (asks at.front)

-- what a client has open is the call of the line that it has come to
abbrev pub AreItsCalls : Script → World → Type 0
AreItsCalls x w = (s c number : ℕ) (call : Asked) → w.opened s c ≡ Some (number, call) → IsItsCall x w c s number call

abbrev pub NothingOpen : World → Type 0
NothingOpen w = (s c : ℕ) → w.opened s c ≡ None

-- it is so at first, where nothing is open
abbrev pub StartIsOfItsLines : Type 0
StartIsOfItsLines = (x : Script) (segments : ℕ) → AreItsCalls x (start segments)

-- and at each moment of a run
abbrev pub OpenIsOfItsLine : Type 0
OpenIsOfItsLine = (x : Course) (turns : List ℕ) (w : World) → Turns x turns (start (length x.script.segments)) w → AreItsCalls x.script w

-- So where each client has ended, nothing is open.
abbrev pub EndsWithNothingOpen : Type 0
EndsWithNothingOpen = (x : Course) (turns : List ℕ) (w : World) → Turns x turns (start (length x.script.segments)) w → AllEnded x.script w → NothingOpen w
