-- A chronicle that an event makes grow, entry by entry: the form for code that pushes one entry after another.
use Rattle.std.specs.Prelude.{◌≡◌, ℕ, Bool, true, false, List, [], ◌∷◌, ◌++◌}
use Rattle.cod_types.specs.declared.call.NodeId.{NodeId}
use Rattle.cod_types.specs.declared.call.Caller.{Caller}
use Rattle.cod_types.specs.declared.call.Reply.{Reply}
use Rattle.cod_chronicle.specs.declared.entry.Entry.{Entry}
use Rattle.cod_chronicle.specs.declared.entry.Entry.TheVariants.{Call, Down}
use Rattle.cod_chronicle.specs.declared.entry.Cause.{Cause}
use Rattle.cod_chronicle.specs.Said.{stamp_of, clock_of, next_stamp}
use Rattle.cod_chronicle.specs.Legal.{Fits, IsDownMark, IsAnswer}
use Rattle.cod_chronicle.specs.Event.{raised, IsSeenCause, IsSeenReply, Request, Setting, IsSwept, Adds, Event}
use Rattle.cod_chronicle.specs.Adding.{IsArriving}

-- from `old`, with the caller's clock t, an event has come to `now`, with its clock `after`
pub record HasGrown (w : Setting) (r : Request) (old : List Entry) (t : ℕ) (now : List Entry) (after : ℕ) (answered : Bool) : Type 0 where
  pub entries : List Entry
  pub grown : now ≡ old ++ entries
  pub adds : Adds w r old t entries after answered

abbrev pub GrowsNot : Type 0
GrowsNot = (w : Setting) (r : Request) (old : List Entry) (t : ℕ) → HasGrown w r old t old t false

abbrev pub GrowsByMark : Type 0
GrowsByMark = (w : Setting) (r : Request) (old now : List Entry) (t u stamp col : ℕ) (node : NodeId) (cause : Cause) → HasGrown w r old t now u false
    → IsSeenCause w.seen w.may node.0 cause → IsDownMark w.site now col node.0 → stamp ≡ next_stamp (clock_of now) (raised w.seen u (Down stamp col node cause))
    → HasGrown w r old t (now ++ (Down stamp col node cause) ∷ []) stamp false

abbrev pub GrowsByCall : Type 0
GrowsByCall = (w : Setting) (r : Request) (old now : List Entry) (t u stamp : ℕ) (caller : Caller) (reply : Reply) → HasGrown w r old t now u false
    → caller.0 ≡ r.caller → IsSeenReply w.seen w.may reply → IsAnswer w.site now r.call reply → stamp ≡ next_stamp (clock_of now) u
    → HasGrown w r old t (now ++ (Call caller r.number stamp r.call reply) ∷ []) stamp true

abbrev pub GrowsByArrival : Type 0
GrowsByArrival = (w : Setting) (r : Request) (old now : List Entry) (t u : ℕ) (arrival : Entry) (caller : Caller) (stamp : ℕ) (reply : Reply)
    → HasGrown w r old t now u false
    → IsArriving arrival → caller.0 ≡ r.caller → IsSeenReply w.seen w.may reply
    → Fits w.site now arrival ((Call caller r.number stamp r.call reply) ∷ []) → IsAnswer w.site (now ++ arrival ∷ []) r.call reply
    → stamp_of arrival ≡ next_stamp (clock_of now) u → stamp ≡ next_stamp (stamp_of arrival) (stamp_of arrival)
    → HasGrown w r old t ((now ++ arrival ∷ []) ++ (Call caller r.number stamp r.call reply) ∷ []) stamp true

-- what has grown, where killed nodes are out now, is one event
abbrev pub GrownIsEvent : Type 0
GrownIsEvent = (w : Setting) (r : Request) (old now : List Entry) (t after : ℕ) (answered : Bool) (g : HasGrown w r old t now after answered)
    → IsSwept w.known w.site now → Event w r old t g.entries after answered
