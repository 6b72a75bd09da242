-- What a whole history owes to its scenario.
use Rattle.std.specs.Prelude.{◌≡◌, ℕ, ◌+◌, ◌*◌, ◌-◌, ◌%◌, ◌<◌, ◌≤◌, ◌^◌, ◌==◌, ◌&&◌, nat_lt, if◌then◌else◌, IsTrue, Bool, true, false}
use Rattle.std.specs.Prelude.{Option, Some, None, List, [], ◌∷◌, ◌++◌, length, map, slice_get}
use Rattle.std.specs.List.{All, filter_map, range_with_len, list_any}
use Rattle.cod_types.specs.declared.call.NodeId.{NodeId}
use Rattle.cod_types.specs.declared.call.Call.TheVariants as call
use Rattle.cod_types.specs.declared.call.Reply.{Reply}
use Rattle.cod_types.specs.declared.call.Reply.TheVariants.{Bytes, Done, Range, Long, Lost, Whole, Rebuilt, NoSpare, NoMem, Shifted, Clear, Differs}
use Rattle.cod_types.specs.declared.reasons.Why.{Why}
use Rattle.cod_types.specs.declared.reasons.Why.TheVariants as why
use Rattle.cod_chronicle.specs.declared.entry.Entry.{Entry}
use Rattle.cod_chronicle.specs.declared.entry.Entry.TheVariants.{Call, Down, Up, Move}
use Rattle.cod_chronicle.specs.declared.entry.Cause.{Cause}
use Rattle.cod_chronicle.specs.declared.entry.Cause.TheVariants.{Killed, Fault}
use Rattle.cod_chronicle.specs.Said.{Site, site_as, is_down, node_of, number_by}
use Rattle.cod_chronicle.specs.Order.{Placed, stamp_at, placed, order}
use Rattle.cod_chronicle.specs.Whole.{IsWholeLegalAs}
use Rattle.cod_script.specs.declared.line.Line.{Line}
use Rattle.cod_script.specs.declared.line.What.{What}
use Rattle.cod_script.specs.declared.line.What.TheVariants.{Segment, Fail}
use Rattle.cod_script.specs.Script.{Script, Ask, asks, lines_by}

-- line L of the scenario reads `fail x`, and stands behind these lines of the caller
pub record FailsBehind (x : Script) (who : ℕ) (front : List Line) (line node : ℕ) : Type 0 where
  pub rest : List Line
  pub at : NodeId
  pub node_is : at.0 ≡ node
  pub lines_are : lines_by x who ≡ front ++ (record { line = line; what = Fail at }) ∷ rest

-- line L of the scenario reads `fail x`
pub record IsFailLine (x : Script) (line node : ℕ) : Type 0 where
  pub who : ℕ
  pub front : List Line
  pub behind : FailsBehind x who front line node

-- what may bring a column on this node down; `may` says on which nodes the shelf may fail
abbrev pub IsCause : Script → (ℕ → Bool) → ℕ → Cause → Type 0
IsCause x may node (Killed line) = IsFailLine x line node
IsCause x may node (Fault count) = (1 ≤ count) × IsTrue (may node)

abbrev pub IsGivenWhy : Script → (ℕ → Bool) → ℕ → Why → Type 0
IsGivenWhy x may node (why.Down line) = IsFailLine x line node
IsGivenWhy x may node (why.Free bytes) = Unit {0}
IsGivenWhy x may node (why.Fault count) = (1 ≤ count) × IsTrue (may node)

abbrev pub IsGiven : Script → (ℕ → Bool) → Reply → Type 0
IsGiven x may (NoSpare reasons) = All (λ r. IsGivenWhy x may r.node.0 r.why) reasons
IsGiven x may (Bytes bytes) = Unit {0}
IsGiven x may (Differs bytes) = Unit {0}
IsGiven x may Done = Unit {0}
IsGiven x may Range = Unit {0}
IsGiven x may Long = Unit {0}
IsGiven x may Lost = Unit {0}
IsGiven x may Whole = Unit {0}
IsGiven x may (Rebuilt col node) = Unit {0}
IsGiven x may NoMem = Unit {0}
IsGiven x may (Shifted col node) = Unit {0}
IsGiven x may Clear = Unit {0}

-- the scenario, or the shelf, gave cause for an entry
abbrev pub IsLicensed : Script → (ℕ → Bool) → Entry → Type 0
IsLicensed x may (Call caller number stamp call reply) = IsGiven x may reply
IsLicensed x may (Down stamp col node cause) = IsCause x may node.0 cause
IsLicensed x may (Up stamp col node) = Unit {0}
IsLicensed x may (Move stamp col node) = Unit {0}

-- what a caller asked
abbrev pub asked_in : ℕ → ℕ → Entry → Option Ask
asked_in s who (Call caller number stamp call reply) = if caller.0 == who then Some (record { segment = s; call = call }) else None
asked_in s who (Down stamp col node cause) = None
asked_in s who (Up stamp col node) = None
asked_in s who (Move stamp col node) = None

abbrev pub ask_by : ℕ → Placed → Option Ask
ask_by who p = asked_in p.segment who p.entry

abbrev pub asked_by : ℕ → List Placed → List Ask
asked_by who ps = filter_map (ask_by who) ps

-- the call of a care worker in a round
abbrev pub care_ask : ℕ → ℕ → ℕ → Bool → ℕ → Ask
care_ask worker workers segments repair round =
    record {
      segment = (worker + round * workers) % segments;
      call = if round % 2 == 0 then call.Merge else if repair && round % 4 == 3 then call.Rebuild else call.Tick;
    }

-- a line fails a node
abbrev pub is_fail : Line → Bool
is_fail l = elim (l.what) [ Segment seg call ↦ false | Fail node ↦ true ]

abbrev pub has_fail : Script → Bool
has_fail x = list_any (λ c. list_any is_fail c.lines) x.clients

-- what a caller owes: a client its lines
abbrev pub owed : Script → ℕ → List Ask
owed x who = asks (lines_by x who)

-- and a care worker its rounds
abbrev pub owed_with_care : Script → ℕ → List Ask
owed_with_care x who =
    if nat_lt who (length x.clients) then owed x who
    else if nat_lt who (length x.clients + x.workers)
    then map (care_ask (who - length x.clients) x.workers (length x.segments) (has_fail x)) (range_with_len 0 x.rounds)
    else []

-- each caller asked what it owes, in its order, and nobody else asked anything
abbrev pub HoldsOwed : (ℕ → List Ask) → List (List Entry) → Type 0
HoldsOwed owes hs = (who : ℕ) → asked_by who (order hs) ≡ owes who

abbrev pub failed_with : What → (ℕ → List ℕ) → ℕ → List ℕ
failed_with (Fail node) rest number = node.0 ∷ rest number
failed_with (Segment seg call) rest number = if number == 0 then [] else rest (number - 1)

-- the nodes that fail ahead of the segment call of this number
abbrev pub failed_ahead : List Line → ℕ → List ℕ
failed_ahead [] number = []
failed_ahead (l ∷ ls) number = failed_with l.what (failed_ahead ls) number

-- each column on this node is down
abbrev pub IsOut : Site → List Entry → ℕ → Type 0
IsOut site before x = (i : ℕ) → i < site.shape.n → node_of site before i ≡ x → is_down before i ≡ true

-- at a call, the nodes that its client failed ahead of it are out
abbrev pub SeesFails : Script → Site → List Entry → Entry → Type 0
SeesFails x site before (Call caller number stamp call reply) = All (IsOut site before) (failed_ahead (lines_by x caller.0) number)
SeesFails x site before (Down stamp col node cause) = Unit {0}
SeesFails x site before (Up stamp col node) = Unit {0}
SeesFails x site before (Move stamp col node) = Unit {0}

abbrev pub SeesFailsAfter : Script → Site → List Entry → List Entry → Type 0
SeesFailsAfter x site before [] = Unit {0}
SeesFailsAfter x site before (e ∷ h) = SeesFails x site before e × SeesFailsAfter x site (before ++ e ∷ []) h

-- an entry stands after what the client of a `fail` line did before it
abbrev pub StandsAfter : Script → List Placed → Entry → Type 0
StandsAfter x ps (Down stamp col node (Killed line)) =
    (who number : ℕ) (front : List Line) → FailsBehind x who front line node.0 → number < length (asks front)
    → All (λ p. number_by who p.entry ≡ Some number → stamp_at p < stamp) ps
StandsAfter x ps (Down stamp col node (Fault count)) = Unit {0}
StandsAfter x ps (Call caller number stamp call reply) = Unit {0}
StandsAfter x ps (Up stamp col node) = Unit {0}
StandsAfter x ps (Move stamp col node) = Unit {0}

pub record ObeysFails (x : Script) (hs : List (List Entry)) : Type 0 where
  pub seen : (s : ℕ) (h : List Entry) → slice_get hs s ≡ Some h → SeesFailsAfter x (site_as true x.shape x.nodes s) [] h
  pub after : All (λ p. stamp_at p < 2 ^ 32) (placed hs) → All (λ p. StandsAfter x (placed hs) p.entry) (placed hs)

-- The sentence about a run's chronicles. `may` says on which nodes the shelf may fail, `owes` what each caller was to ask, and
-- `told` whether the regions tell what they hold: where they don't, the bytes of replies are left open.
pub record IsHistory (told : Bool) (x : Script) (may : ℕ → Bool) (owes : ℕ → List Ask) (hs : List (List Entry)) : Type 0 where
  pub count : length hs ≡ length x.segments
  pub whole : IsWholeLegalAs told x.shape x.nodes hs
  pub licensed : All (λ p. IsLicensed x may p.entry) (placed hs)
  pub holds : HoldsOwed owes hs
  pub obeys : ObeysFails x hs
