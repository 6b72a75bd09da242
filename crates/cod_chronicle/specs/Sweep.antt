-- How an event proceeds in time: its sweep, and what comes then.
use Rattle.std.specs.Prelude.{◌≡◌, ◌⊎◌, ℕ, ◌≤◌, IsTrue, Bool, true, false, None, List, [], ◌∷◌, ◌++◌}
use Rattle.std.specs.List.{range_with_len, AllByRecursion}
use Rattle.cod_types.specs.declared.call.NodeId.{NodeId}
use Rattle.cod_chronicle.specs.declared.entry.Entry.{Entry}
use Rattle.cod_chronicle.specs.declared.entry.Entry.TheVariants.{Call, Down, Up, Move}
use Rattle.cod_chronicle.specs.declared.entry.Cause.TheVariants.{Killed, Fault}
use Rattle.cod_chronicle.specs.Said.{clock_of, next_stamp, is_down, node_of}
use Rattle.cod_chronicle.specs.Legal.{LegalAfter}
use Rattle.cod_chronicle.specs.Event.{raised, Stamped, IsKilledBy, IsSeenReply, Request, Setting, Event}
use Rattle.cod_chronicle.specs.Adding.{StaysOff}

-- A sweep passes by a column: it is down, or its node wasn't known as killed.
abbrev pub IsPassed : Setting → List Entry → ℕ → Type 0
IsPassed w h i = (is_down h i ≡ true) ⊎ (w.known (node_of w.site h i) ≡ None)

-- It marks a live column, whose node is seen as killed by this line.
pub record IsCaught (w : Setting) (h : List Entry) (t i stamp : ℕ) (node : NodeId) (line : ℕ) : Type 0 where
  pub live : is_down h i ≡ false
  pub there : node.0 ≡ node_of w.site h i
  pub seen : IsKilledBy w.seen node.0 line
  pub stamp_is : stamp ≡ next_stamp (clock_of h) (raised w.seen t (Down stamp i node (Killed line)))

-- What a sweep over some columns, in this order, adds behind some entries, where the caller's clock is t, and the clock after it.
-- Where the board knows as many kills before the sweep as after it, there is one such list.
abbrev pub Sweeps : Setting → List Entry → ℕ → List ℕ → List Entry → ℕ → Type 0
Sweeps w h t [] es after = (es ≡ []) × (after ≡ t)
Sweeps w h t (i ∷ is) es after =
    (IsPassed w h i × Sweeps w h t is es after)
    ⊎ ((stamp : ℕ) × (line : ℕ) × (node : NodeId) × (more : List Entry) × IsCaught w h t i stamp node line × (es ≡ (Down stamp i node (Killed line)) ∷ more)
    × Sweeps w (h ++ (Down stamp i node (Killed line)) ∷ []) stamp is more after)

-- What comes behind the sweep: marks of columns whose region failed, and last, where the event answers, the call, with the column
-- that it brought to a node just before it.
abbrev pub TellsThen : Setting → Request → List Entry → (answered : Bool) → Type 0
TellsThen w r [] answered = answered ≡ false
TellsThen w r ((Call caller number stamp call reply) ∷ es) answered =
    (caller.0 ≡ r.caller) × (number ≡ r.number) × (call ≡ r.call) × IsSeenReply w.seen w.may reply × (es ≡ []) × (answered ≡ true)
TellsThen w r ((Down stamp col node (Fault count)) ∷ es) answered = (1 ≤ count) × IsTrue (w.may node.0) × TellsThen w r es answered
TellsThen w r ((Down stamp col node (Killed line)) ∷ es) answered = ⊥
TellsThen w r ((Up stamp col node) ∷ es) answered = TellsThen w r es answered
TellsThen w r ((Move stamp col node) ∷ es) answered = TellsThen w r es answered

-- An event: first the sweep over all columns, and where the call is held nothing more; else what came of its step. A column comes
-- only to a node that wasn't known as killed.
pub record Proceeds (w : Setting) (r : Request) (h : List Entry) (t : ℕ) (entries : List Entry) (after : ℕ) (held answered : Bool) : Type 0 where
  pub swept : List Entry
  pub clock : ℕ
  pub rest : List Entry
  pub are : entries ≡ swept ++ rest
  pub sweeps : Sweeps w h t (range_with_len 0 w.site.shape.n) swept clock
  pub waits : held ≡ true → rest ≡ []
  pub tells : TellsThen w r rest answered
  pub stamped : Stamped w.seen (clock_of (h ++ swept)) clock rest after
  pub legal : LegalAfter w.site (h ++ swept) rest
  pub off : AllByRecursion (StaysOff w.known) rest

-- what proceeds so is one event
abbrev pub ProceedsIsEvent : Type 0
ProceedsIsEvent = (w : Setting) (r : Request) (h : List Entry) (t : ℕ) (entries : List Entry) (after : ℕ) (held answered : Bool)
    → Proceeds w r h t entries after held answered → Event w r h t entries after answered

-- over a board that others don't change, a sweep has one outcome
abbrev pub SweepsOneWay : Type 0
SweepsOneWay = (w : Setting) (is : List ℕ) (h : List Entry) (t : ℕ) (es fs : List Entry) (u v : ℕ) → ((x : ℕ) → w.known x ≡ w.seen x)
    → Sweeps w h t is es u → Sweeps w h t is fs v → (es ≡ fs) × (u ≡ v)
