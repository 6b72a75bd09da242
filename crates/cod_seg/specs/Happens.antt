-- Steps of one request's event: whose they are, their stamps, and what callers have open.
use Rattle.std.specs.Prelude.{◌≡◌, ◌≢◌, ◌≤◌, ℕ, Bool, length, true, false, Option, Some, None, List, ⊤}
use Rattle.cod_types.specs.declared.call.Call.{Call as Asked}
use Rattle.cod_types.specs.declared.call.Call.TheVariants.{Drain, Put, Rebuild}
use Rattle.cod_types.specs.declared.call.Caller.{Caller}
use Rattle.cod_types.specs.declared.call.Reply.{Reply}
use Rattle.cod_types.specs.declared.call.Reply.TheVariants.{Done, Lost}
use Rattle.cod_chronicle.specs.declared.entry.Entry.{Entry}
use Rattle.cod_chronicle.specs.declared.entry.Entry.TheVariants.{Down}
use Rattle.cod_chronicle.specs.Event.{IsSeenCause, IsSeenReply, raised, Request, Setting}
use Rattle.cod_chronicle.specs.Growing.{HasGrown}
use Rattle.cod_chronicle.specs.Legal.{node_id}
use Rattle.cod_chronicle.specs.Said.{clock_of, next_stamp, node_of}
use Rattle.cod_claims.specs.Changes.{new_bytes}
use Rattle.cod_seg.specs.Seg.{col_at, node_in, Rebuilding, Seg}
use Rattle.cod_seg.specs.Sound.{IsOther, Sound}
use Rattle.cod_seg.specs.Steps.{aims, answers, applies, Begins, begins, commits, fills, Goes, goes, loses, marks, moves, notes, puts, rises, spoils, stays}
use Rattle.cod_seg.specs.Steps.{Step, works}
use Rattle.cod_seg.specs.Next.{open_in}

-- no entry is made, and the caller's clock stays
pub record IsSilent (t after : ℕ) (answered : Bool) : Type 0 where
  pub clock : after ≡ t
  pub goes_on : answered ≡ false

-- The request's call is entered, with the next stamp after the segment's clock and the caller's, which then is the caller's clock.
-- Afterwards the caller has no rebuild in progress.
pub record IsEntered (w : Setting) (r : Request) (segment t after : ℕ) (answered : Bool) (caller : Caller) (number stamp : ℕ) (call : Asked) (reply : Reply)
    (left : Option Rebuilding) : Type 0 where
  pub caller_is : caller.0 ≡ r.caller
  pub number_is : number ≡ r.number
  pub call_is : call ≡ r.call
  pub seen : IsSeenReply w.seen w.may reply
  pub stamp_is : stamp ≡ next_stamp segment t
  pub clock : after ≡ stamp
  pub ends : answered ≡ true
  pub alone : IsOther r.caller left

-- a column is marked, with its cause seen, and the next stamp: for a killed node after the kill's clock, too
pub record IsMarked (w : Setting) (segment t after : ℕ) (answered : Bool) (mark : Entry) (stamp : ℕ) : Type 0 where
  pub stamp_is : stamp ≡ next_stamp segment (raised w.seen t mark)
  pub clock : after ≡ stamp
  pub goes_on : answered ≡ false

-- a column comes to a node, and the request's call is entered behind that, each with the next stamp
pub record IsArrived (w : Setting) (r : Request) (segment t after : ℕ) (answered : Bool) (caller : Caller) (number first second : ℕ)
    (call : Asked) : Type 0 where
  pub caller_is : caller.0 ≡ r.caller
  pub number_is : number ≡ r.number
  pub call_is : call ≡ r.call
  pub first_is : first ≡ next_stamp segment t
  pub second_is : second ≡ next_stamp first first
  pub clock : after ≡ second
  pub ends : answered ≡ true

-- A rebuild begins by the request, and ends by its caller's. Others may take its target, as where that one's node is killed.
abbrev pub IsOwnAim : Request → (old new : Option Rebuilding) → Type 0
IsOwnAim r None None = ⊤
IsOwnAim r None (Some q) = (q.caller ≡ r.caller) × (q.number ≡ r.number)
IsOwnAim r (Some p) None = p.caller ≡ r.caller
IsOwnAim r (Some p) (Some q) = ⊤

-- A step is of this request's event: the caller's clock is t before it and `after` behind it, and the event is answered with it or
-- not.
abbrev pub Happens : (w : Setting) (r : Request) (t after : ℕ) (answered : Bool) (s u : Seg) → Step s u → Type 0
Happens w r t after answered s u (begins b) = (b.caller.0 ≡ r.caller) × (b.number ≡ r.number) × (b.call ≡ r.call) × IsSilent t after answered
Happens w r t after answered s u (applies j a) = (a.claim.owner.0 ≡ r.caller) × IsSilent t after answered
Happens w r t after answered s u (notes j i high below n) = (n.claim.owner.0 ≡ r.caller) × IsSilent t after answered
Happens w r t after answered s u (commits c) = IsEntered w r (clock_of s.log) t after answered c.caller c.number c.stamp c.call Done u.rebuild
Happens w r t after answered s u (puts p) = IsEntered w r (clock_of s.log) t after answered p.caller p.number p.stamp (Put p.bytes) Done u.rebuild
Happens w r t after answered s u (spoils x) = IsSilent t after answered
Happens w r t after answered s u (answers a) = IsEntered w r (clock_of s.log) t after answered a.caller a.number a.stamp a.call a.reply u.rebuild
Happens w r t after answered s u (loses l) = IsEntered w r (clock_of s.log) t after answered l.caller l.number l.stamp l.call Lost u.rebuild
Happens w r t after answered s u (marks i below m) =
    IsSeenCause w.seen w.may (node_in (col_at s.cols i)) m.cause
    × IsMarked w (clock_of s.log) t after answered (Down m.stamp i (node_id (node_in (col_at s.cols i))) m.cause) m.stamp
Happens w r t after answered s u (works i below x) = IsSilent t after answered
Happens w r t after answered s u (aims a) = IsOwnAim r s.rebuild u.rebuild × IsSilent t after answered
Happens w r t after answered s u (fills f) = (f.r.caller ≡ r.caller) × IsSilent t after answered
Happens w r t after answered s u (rises x) = IsArrived w r (clock_of s.log) t after answered x.caller x.r.number x.first x.second Rebuild
Happens w r t after answered s u (moves i below m) =
    IsArrived w r (clock_of s.log) t after answered m.caller m.number m.first m.second (Drain (node_id (node_of s.site s.log i)))

-- What has grown of an event grows on by each step of it. So an event that is made of such steps adds to the chronicle what an
-- event adds, with its exact stamps.
abbrev pub StepGrows : Type 0
StepGrows = (w : Setting) (r : Request) (old : List Entry) (start t after : ℕ) (answered : Bool) (s u : Seg) (step : Step s u) → w.site ≡ s.site → Sound s
    → Happens w r t after answered s u step → HasGrown w r old start s.log t false → HasGrown w r old start u.log after answered

-- what other callers have open stays
abbrev pub OthersKeepOpen : Type 0
OthersKeepOpen = (w : Setting) (r : Request) (t after other : ℕ) (answered : Bool) (s u : Seg) (step : Step s u) → Sound s
    → Happens w r t after answered s u step → other ≢ r.caller → open_in u other ≡ open_in s other

-- and a caller whose call was answered has nothing open
abbrev pub AnswerEnds : Type 0
AnswerEnds = (w : Setting) (r : Request) (t after : ℕ) (s u : Seg) (step : Step s u) → Sound s
    → Happens w r t after true s u step → open_in u r.caller ≡ None

-- A caller that began an update of some bytes has that call open.
abbrev pub BeginOpens : Type 0
BeginOpens = (s u : Seg) (b : Begins s u) → Sound s → 1 ≤ length (new_bytes b.call) → open_in u b.caller.0 ≡ Some (b.number, b.call)

-- these steps, one after another, are of this request's event
abbrev pub Happened : (w : Setting) (r : Request) (t after : ℕ) (answered : Bool) (s u : Seg) → Goes s u → Type 0
Happened w r t after answered s u (stays v) = IsSilent t after answered
Happened w r t after answered s u (goes a b c before step) = (mid : ℕ) × Happened w r t mid false a b before × Happens w r mid after answered b c step

-- So they add what an event adds, and leave what others have open.
abbrev pub EventGrows : Type 0
EventGrows = (w : Setting) (r : Request) (t after : ℕ) (answered : Bool) (s u : Seg) (steps : Goes s u) → w.site ≡ s.site → Sound s
    → Happened w r t after answered s u steps → HasGrown w r s.log t u.log after answered

abbrev pub EventKeepsOpen : Type 0
EventKeepsOpen = (w : Setting) (r : Request) (t after other : ℕ) (answered : Bool) (s u : Seg) (steps : Goes s u) → Sound s
    → Happened w r t after answered s u steps → other ≢ r.caller → open_in u other ≡ open_in s other
