-- How an event is put together, entry by entry, and what it keeps.
use Rattle.std.specs.Prelude.{◌≡◌, ℕ, ◌<◌, ◌≤◌, true, false, Bool, None, List, [], ◌∷◌, ◌++◌, All}
use Rattle.cod_types.specs.declared.call.NodeId.{NodeId}
use Rattle.cod_types.specs.declared.call.Caller.{Caller}
use Rattle.cod_types.specs.declared.call.Reply.{Reply}
use Rattle.cod_chronicle.specs.declared.entry.Entry.{Entry}
use Rattle.cod_chronicle.specs.declared.entry.Entry.TheVariants.{Call, Down, Up, Move}
use Rattle.cod_chronicle.specs.declared.entry.Cause.{Cause}
use Rattle.cod_chronicle.specs.Said.{Site, stamp_of, clock_of, last_stamp, next_stamp, StampFollows, IsChronicle, numbers_by}
use Rattle.cod_chronicle.specs.Legal.{IsLegal, IsDownMark, IsAnswer, Fits}
use Rattle.cod_chronicle.specs.Event.{Kills, raised, IsSeenCause, IsSeenReply, Request, Setting, IsSwept, Adds}

-- the next stamp stands behind all entries
abbrev pub FollowsNext : Type 0
FollowsNext = (h : List Entry) (t : ℕ) → clock_of h ≤ last_stamp → StampFollows h (next_stamp (clock_of h) t)

-- it is greater than both clocks, as long as they are below the greatest stamp, and never greater than that
pub record IsAfter (s t u : ℕ) : Type 0 where
  pub both : s < last_stamp → t < last_stamp → (s < u) × (t < u)
  pub range : u ≤ last_stamp

abbrev pub NextIsAfter : Type 0
NextIsAfter = (s t : ℕ) → IsAfter s t (next_stamp s t)

-- nothing is added yet
abbrev pub AddsNothing : Type 0
AddsNothing = (w : Setting) (r : Request) (h : List Entry) (t : ℕ) → Adds w r h t [] t false

-- a column goes down
abbrev pub AddsMark : Type 0
AddsMark = (w : Setting) (r : Request) (h es : List Entry) (t u stamp col : ℕ) (node : NodeId) (cause : Cause) → Adds w r h t es u false
    → IsSeenCause w.seen w.may node.0 cause → IsDownMark w.site (h ++ es) col node.0
    → stamp ≡ next_stamp (clock_of (h ++ es)) (raised w.seen u (Down stamp col node cause))
    → Adds w r h t (es ++ (Down stamp col node cause) ∷ []) stamp false

-- the call is answered
abbrev pub AddsCall : Type 0
AddsCall = (w : Setting) (r : Request) (h es : List Entry) (t u stamp : ℕ) (caller : Caller) (reply : Reply) → Adds w r h t es u false
    → caller.0 ≡ r.caller → IsSeenReply w.seen w.may reply → IsAnswer w.site (h ++ es) r.call reply
    → stamp ≡ next_stamp (clock_of (h ++ es)) u
    → Adds w r h t (es ++ (Call caller r.number stamp r.call reply) ∷ []) stamp true

-- a column comes to a node
abbrev pub IsArriving : Entry → Type 0
IsArriving (Up stamp col node) = Unit {0}
IsArriving (Move stamp col node) = Unit {0}
IsArriving _ = ⊥

-- the call is answered, and a column comes to a node just before it
abbrev pub AddsArrival : Type 0
AddsArrival = (w : Setting) (r : Request) (h es : List Entry) (t u : ℕ) (arrival : Entry) (caller : Caller) (stamp : ℕ) (reply : Reply)
    → Adds w r h t es u false
    → IsArriving arrival → caller.0 ≡ r.caller → IsSeenReply w.seen w.may reply
    → Fits w.site (h ++ es) arrival ((Call caller r.number stamp r.call reply) ∷ [])
    → IsAnswer w.site ((h ++ es) ++ arrival ∷ []) r.call reply
    → stamp_of arrival ≡ next_stamp (clock_of (h ++ es)) u → stamp ≡ next_stamp (stamp_of arrival) (stamp_of arrival)
    → Adds w r h t (es ++ arrival ∷ (Call caller r.number stamp r.call reply) ∷ []) stamp true

-- what is added to a chronicle leaves one
abbrev pub KeepsChronicle : Type 0
KeepsChronicle = (w : Setting) (r : Request) (h es : List Entry) (t u : ℕ) (answered : Bool) → IsChronicle h → clock_of h ≤ last_stamp
    → All (λ m. m < r.number) (numbers_by r.caller h) → Adds w r h t es u answered → IsChronicle (h ++ es)

-- and to a legal one a legal one
abbrev pub KeepsLegal : Type 0
KeepsLegal = (w : Setting) (r : Request) (h es : List Entry) (t u : ℕ) (answered : Bool) → IsLegal w.site h → Adds w r h t es u answered
    → IsLegal w.site (h ++ es)

-- what comes after a sweep leaves each column down that it marked, where no column comes to a killed node
abbrev pub StaysOff : Kills → Entry → Type 0
StaysOff kills (Up stamp col node) = kills node.0 ≡ None
StaysOff kills (Move stamp col node) = kills node.0 ≡ None
StaysOff kills _ = Unit {0}

abbrev pub KeepsSwept : Type 0
KeepsSwept = (kills : Kills) (site : Site) (h : List Entry) (e : Entry) → IsSwept kills site h → StaysOff kills e → IsSwept kills site (h ++ e ∷ [])
