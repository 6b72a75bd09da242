-- What is left of an event where its clock, its kills and its number aren't known.
use Rattle.std.specs.Prelude.{◌≡◌, ◌≢◌, ℕ, ◌<◌, ◌≤◌, Bool, true, false, Some, List, [], ◌∷◌, ◌++◌}
use Rattle.std.specs.List.{AllByRecursion}
use Rattle.cod_types.specs.declared.call.Caller.{Caller}
use Rattle.cod_types.specs.declared.call.Call.{Call as Asked}
use Rattle.cod_types.specs.declared.call.Reply.{Reply}
use Rattle.cod_chronicle.specs.declared.entry.Entry.{Entry}
use Rattle.cod_chronicle.specs.declared.entry.Entry.TheVariants.{Call, Down}
use Rattle.cod_chronicle.specs.Said.{Site, last_stamp, Precedes, calls_by}
use Rattle.cod_chronicle.specs.Legal.{IsLegal}
use Rattle.cod_chronicle.specs.declared.entry.Cause.TheVariants.{Killed}
use Rattle.cod_chronicle.specs.Standing.{IsNoCallBut}
use Rattle.cod_chronicle.specs.Event.{NodeKill, Kills, Request, Setting, IsSeenReply, IsSwept, Event}

-- an entry is no call
abbrev pub IsMarkEntry : Entry → Type 0
IsMarkEntry (Call caller number stamp call reply) = ⊥
IsMarkEntry _ = Unit {0}

-- An event that answers ends with its call, whose stamp is its caller's clock afterwards. At the call each column on a node that was
-- known as killed is down.
pub record EndsWithCall (w : Setting) (r : Request) (h entries : List Entry) (after : ℕ) : Type 0 where
  pub marks : List Entry
  pub caller : Caller
  pub reply : Reply
  pub are : entries ≡ marks ++ (Call caller r.number after r.call reply) ∷ []
  pub only_marks : AllByRecursion IsMarkEntry marks
  pub caller_is : caller.0 ≡ r.caller
  pub seen : IsSeenReply w.seen w.may reply
  pub out : IsSwept w.known w.site (h ++ marks)

abbrev pub AnsweredEndsWithCall : Type 0
AnsweredEndsWithCall = (w : Setting) (r : Request) (h : List Entry) (t : ℕ) (entries : List Entry) (after : ℕ)
    → Event w r h t entries after true → EndsWithCall w r h entries after

-- a mark of a killed node stands after the kill, by its clock
abbrev pub IsAfterKill : Kills → Entry → Type 0
IsAfterKill kills (Down stamp col node (Killed line)) = (k : NodeKill) × (kills node.0 ≡ Some k) × (k.line ≡ line) × (k.clock < stamp)
IsAfterKill kills _ = Unit {0}

abbrev pub MarksStandAfter : Type 0
MarksStandAfter = (w : Setting) (r : Request) (h : List Entry) (t : ℕ) (entries : List Entry) (after : ℕ) (answered : Bool)
    → ((x : ℕ) (k : NodeKill) → w.seen x ≡ Some k → k.clock < last_stamp) → Event w r h t entries after answered → AllByRecursion (IsAfterKill w.seen) entries

-- One that doesn't answer adds marks alone.
abbrev pub UnansweredAreMarks : Type 0
UnansweredAreMarks = (w : Setting) (r : Request) (h : List Entry) (t : ℕ) (entries : List Entry) (after : ℕ)
    → Event w r h t entries after false → AllByRecursion IsMarkEntry entries

-- The caller's clock never falls, and rises with an answer.
pub record Rises (t after : ℕ) (answered : Bool) : Type 0 where
  pub never_falls : t ≤ after
  pub answer_rises : answered ≡ true → Precedes t after

abbrev pub EventsRise : Type 0
EventsRise = (w : Setting) (r : Request) (h : List Entry) (t : ℕ) (entries : List Entry) (after : ℕ) (answered : Bool) → t ≤ last_stamp
    → Event w r h t entries after answered → Rises t after answered

-- one event of this caller leads from some entries to others
pub record IsStep (site : Site) (may : ℕ → Bool) (who : ℕ) (old new : List Entry) : Type 0 where
  pub known : Kills
  pub seen : Kills
  pub number : ℕ
  pub call : Asked
  pub clock : ℕ
  pub entries : List Entry
  pub after : ℕ
  pub answered : Bool
  pub event : Event (record { site = site; known = known; seen = seen; may = may })
      (record { caller = who; number = number; call = call })
      old clock entries after answered
  pub grown : new ≡ old ++ entries

-- A step adds entries behind those that were there, its calls are the caller's, and what was legal stays so.
pub record StepsOn (site : Site) (who : ℕ) (old new : List Entry) : Type 0 where
  pub added : List Entry
  pub grown : new ≡ old ++ added
  pub calls : AllByRecursion (IsNoCallBut who) added
  pub legal : IsLegal site old → IsLegal site new

abbrev pub StepLeadsOn : Type 0
StepLeadsOn = (site : Site) (may : ℕ → Bool) (who : ℕ) (old new : List Entry) → IsStep site may who old new → StepsOn site who old new

-- entries with no call but one caller's leave the calls of each other one
abbrev pub LeavesOthersCalls : Type 0
LeavesOthersCalls = (who other : ℕ) (h added : List Entry) → other ≢ who → AllByRecursion (IsNoCallBut who) added
    → calls_by other (h ++ added) ≡ calls_by other h
