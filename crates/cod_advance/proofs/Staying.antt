-- The entries of an event behind its sweep.
use Rattle.std.proofs.Common.{◌≡◌, ℕ, Bool, true, false, Some, List, [], ◌∷◌, ◌++◌, refl, sym, ap, ◌∙◌, subst}
use Rattle.std.specs.Prelude.{is_some}
use Rattle.std.specs.List.{AllByRecursion}
use Rattle.std.proofs.lemmas.Bool.{both_ways}
use Rattle.std.proofs.lemmas.List.{append-nil, append_assoc}
use Rattle.cod_types.specs.declared.call.Call.{Call as Asked}
use Rattle.cod_types.specs.declared.call.Call.TheVariants.{Rebuild, Drain}
use Rattle.cod_types.specs.declared.call.Reply.TheVariants.{Rebuilt, Shifted}
use Rattle.cod_chronicle.specs.declared.entry.Entry.{Entry}
use Rattle.cod_chronicle.specs.declared.entry.Entry.TheVariants.{Call, Down, Up, Move}
use Rattle.cod_chronicle.specs.declared.entry.Cause.TheVariants.{Killed, Fault}
use Rattle.cod_chronicle.specs.Adding.{StaysOff}
use Rattle.cod_chronicle.specs.Event.{Event, IsSwept, Kills, Request, Setting, Tells}
use Rattle.cod_chronicle.specs.Legal.{IsNext, LegalAfter, node_id}
use Rattle.cod_chronicle.specs.Said.{is_down, node_of, Site}
use Rattle.cod_chronicle.specs.Sweep.{Sweeps, TellsThen}
use Rattle.cod_chronicle.proofs.Adding.{keeps_swept}
use Rattle.cod_chronicle.proofs.Sweeping.{proceeds_is_event}
use Rattle.std.specs.List.{range_with_len}
use Rattle.cod_segment.specs.Exact.{IsStaying}

-- what comes behind an Up or a Move is the call that brought it
next_call : (w : Setting) (r : Request) (es : List Entry) (asked : Asked) (told : _) (answered : Bool) → IsNext asked told es → Tells w r es answered → (r.call ≡ asked) × (answered ≡ true)
next_call w r [] asked told answered is tells = absurd is
next_call w r ((Call caller number stamp call reply) ∷ es) asked told answered is tells = (sym tells.2 ∙ is.0, tells.5)
next_call w r ((Down stamp col node cause) ∷ es) asked told answered is tells = absurd is
next_call w r ((Up stamp col node) ∷ es) asked told answered is tells = absurd is
next_call w r ((Move stamp col node) ∷ es) asked told answered is tells = absurd is

-- a call with which no column comes to a node
abbrev pub BringsNone : Asked → Type 0
BringsNone Rebuild = ⊥
BringsNone (Drain node) = ⊥
BringsNone _ = Unit {0}

-- where none can come, none does
pub staying : (w : Setting) (r : Request) (site : Site) (h es : List Entry) (answered : Bool) → ((asked : Asked) → r.call ≡ asked → answered ≡ true → BringsNone asked)
    → Tells w r es answered → LegalAfter site h es → AllByRecursion IsStaying es
staying w r site h [] answered none tells legal = tt
staying w r site h ((Call caller number stamp call reply) ∷ es) answered none tells legal = (tt, subst (AllByRecursion IsStaying) (sym tells.4) tt)
staying w r site h ((Down stamp col node cause) ∷ es) answered none tells legal = (tt, staying w r site (h ++ Down stamp col node cause ∷ []) es answered none tells.1 legal.1)
staying w r site h ((Up stamp col node) ∷ es) answered none tells legal =
    let n = next_call w r es Rebuild (Rebuilt col node) answered legal.0.rebuild tells in
    absurd (none Rebuild n.0 n.1)
staying w r site h ((Move stamp col node) ∷ es) answered none tells legal =
    let drained = node_id (node_of site h col) in
    let n = next_call w r es (Drain drained) (Shifted col node) answered legal.0.drain tells in
    absurd (none (Drain drained) n.0 n.1)

pub staying_off : (kills : Kills) (es : List Entry) → AllByRecursion IsStaying es → AllByRecursion (StaysOff kills) es
staying_off kills [] all = tt
staying_off kills ((Call caller number stamp call reply) ∷ es) all = (tt, staying_off kills es all.1)
staying_off kills ((Down stamp col node cause) ∷ es) all = (tt, staying_off kills es all.1)
staying_off kills ((Up stamp col node) ∷ es) all = absurd all.0
staying_off kills ((Move stamp col node) ∷ es) all = absurd all.0

-- A sweep by itself is an event: it leaves each column down whose node was known as killed.
pub swept_event : (w : Setting) (r : Request) (h : List Entry) (t : ℕ) (marks : List Entry) (clock : ℕ) → Sweeps w h t (range_with_len 0 w.site.shape.n) marks clock
    → Event w r h t marks clock false
swept_event w r h t marks clock sweeps = proceeds_is_event w r h t marks clock false false (record {
  swept = marks;
  clock = clock;
  rest = [];
  are = sym (append-nil marks);
  sweeps = sweeps;
  waits = λ e. refl;
  tells = refl;
  stamped = refl;
  legal = tt;
  off = tt;
})

-- and what comes then keeps them down
pub swept_then : (w : Setting) (h es : List Entry) → AllByRecursion (StaysOff w.known) es → IsSwept w.known w.site h → IsSwept w.known w.site (h ++ es)
swept_then w h [] off s = subst (IsSwept w.known w.site) (sym (append-nil h)) s
swept_then w h (e ∷ es) off s = subst (IsSwept w.known w.site) (append_assoc h (e ∷ []) es) (swept_then w (h ++ e ∷ []) es off.1 (keeps_swept w.known w.site h e s off.0))

-- Behind a sweep no column's node is found killed.
pub told_then : (w : Setting) (r : Request) (h es : List Entry) (answered : Bool) → ((x : ℕ) → w.known x ≡ w.seen x) → IsSwept w.known w.site h
    → AllByRecursion (StaysOff w.known) es → LegalAfter w.site h es → Tells w r es answered → TellsThen w r es answered
told_then w r h [] answered calm swept off legal tells = tells
told_then w r h ((Call caller number stamp call reply) ∷ es) answered calm swept off legal tells = tells
told_then w r h ((Down stamp col node (Fault count)) ∷ es) answered calm swept off legal tells =
    let e : Entry = Down stamp col node (Fault count) in
    (tells.0.0, tells.0.1, told_then w r (h ++ e ∷ []) es answered calm (keeps_swept w.known w.site h e swept off.0) off.1 legal.1 tells.1)
told_then w r h ((Down stamp col node (Killed line)) ∷ es) answered calm swept off legal tells =
    let known : w.known (node_of w.site h col) ≡ Some tells.0.0 = ap w.known (sym legal.0.there) ∙ calm node.0 ∙ tells.0.1 in
    absurd (both_ways (is_down h col) legal.0.live (swept col legal.0.column (ap is_some known)))
told_then w r h ((Up stamp col node) ∷ es) answered calm swept off legal tells =
    let e : Entry = Up stamp col node in
    told_then w r (h ++ e ∷ []) es answered calm (keeps_swept w.known w.site h e swept off.0) off.1 legal.1 tells
told_then w r h ((Move stamp col node) ∷ es) answered calm swept off legal tells =
    let e : Entry = Move stamp col node in
    told_then w r (h ++ e ∷ []) es answered calm (keeps_swept w.known w.site h e swept off.0) off.1 legal.1 tells
