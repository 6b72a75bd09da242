-- What a board has shown it shows later, too; and what it doesn't know it didn't know earlier.
use Rattle.std.proofs.Common.{◌≡◌, inl, inr, ℕ, List, [], ◌∷◌, ◌++◌, Bool, Option, Some, None, IsSome, refl, sym, ap, ◌∙◌}
use Rattle.std.specs.Prelude.{false, max}
use Rattle.std.specs.List.{range_with_len}
use Rattle.cod_types.specs.declared.call.NodeId.{NodeId}
use Rattle.cod_types.specs.declared.call.Reply.{Reply}
use Rattle.cod_types.specs.declared.call.Reply.TheVariants as reply
use Rattle.cod_types.specs.declared.reasons.Why.{Why}
use Rattle.cod_types.specs.declared.reasons.Why.TheVariants as why
use Rattle.cod_chronicle.specs.declared.entry.Entry.{Entry}
use Rattle.cod_chronicle.specs.declared.entry.Entry.TheVariants.{Down}
use Rattle.cod_chronicle.specs.declared.entry.Cause.{Cause}
use Rattle.cod_chronicle.specs.declared.entry.Cause.TheVariants.{Killed, Fault}
use Rattle.cod_chronicle.specs.Event.{clock_at, IsKilledBy, IsSeenCause, IsSeenReply, IsSeenWhy, NodeKill, Kills, raised, Request, Setting}
use Rattle.cod_chronicle.specs.Said.{clock_of, next_stamp}
use Rattle.cod_chronicle.specs.Sweep.{Sweeps}
use Rattle.cod_seg.specs.Happens.{Happened, Happens, IsArrived, IsEntered, IsMarked}
use Rattle.cod_seg.specs.Seg.{Rebuilding, Seg, Target}
use Rattle.cod_seg.specs.Steps.{aims, answers, applies, begins, commits, fills, Goes, goes, loses, marks, moves, notes, puts, rises, spoils, stays, Step, works}
use Rattle.cod_segment.specs.Events.{Makes, Swept}
use Rattle.cod_seg.specs.declared.next.Step.{Step as Next}
use Rattle.cod_seg.specs.declared.next.Step.TheVariants as step
use Rattle.cod_segment.specs.declared.asking.Outcome.{Outcome}
use Rattle.cod_segment.specs.declared.asking.Outcome.TheVariants.{Moved, Answered, Held}
use Rattle.cod_segment.specs.Exact.{Aimed, AnswersBy, Exactly, GoesOnBy, Shifts, SweepsExactly, SweepsRebuild, SweepsTarget}

-- the second shows what the first did
abbrev pub IsLater : (earlier later : Kills) → Type 0
IsLater earlier later = (x : ℕ) → IsSome (earlier x) → later x ≡ earlier x

-- a setting in which more is seen
abbrev pub seeing : Setting → Kills → Setting
seeing w kills = record w { seen = kills }

some_is : (o : Option NodeKill) (k : NodeKill) → o ≡ Some k → IsSome o
some_is o k e = rw e refl

killed_later : (a b : Kills) (x line : ℕ) → IsLater a b → IsKilledBy a x line → IsKilledBy b x line
killed_later a b x line later is = (is.0, later x (some_is (a x) is.0 is.1) ∙ is.1, is.2)

cause_later : (a b : Kills) (may : ℕ → Bool) (x : ℕ) (cause : Cause) → IsLater a b → IsSeenCause a may x cause → IsSeenCause b may x cause
cause_later a b may x (Killed line) later is = killed_later a b x line later is
cause_later a b may x (Fault count) later is = is

why_later : (a b : Kills) (may : ℕ → Bool) (x : ℕ) (y : Why) → IsLater a b → IsSeenWhy a may x y → IsSeenWhy b may x y
why_later a b may x (why.Down line) later is = killed_later a b x line later is
why_later a b may x (why.Free bytes) later is = is
why_later a b may x (why.Fault count) later is = is

reply_later : (a b : Kills) (may : ℕ → Bool) (r : Reply) → IsLater a b → IsSeenReply a may r → IsSeenReply b may r
reply_later a b may (reply.NoSpare reasons) later is = λ i d small. why_later a b may _ _ later (is i d small)
reply_later a b may (reply.Bytes bytes) later is = tt
reply_later a b may reply.Done later is = tt
reply_later a b may (reply.Differs bytes) later is = tt
reply_later a b may reply.Whole later is = tt
reply_later a b may (reply.Rebuilt col node) later is = tt
reply_later a b may reply.NoMem later is = tt
reply_later a b may reply.Clear later is = tt
reply_later a b may (reply.Shifted col node) later is = tt
reply_later a b may reply.Range later is = tt
reply_later a b may reply.Long later is = tt
reply_later a b may reply.Lost later is = tt

raised_later : (a b : Kills) (may : ℕ → Bool) (t stamp col : ℕ) (node : NodeId) (cause : Cause) → IsLater a b → IsSeenCause a may node.0 cause
    → raised b t (Down stamp col node cause) ≡ raised a t (Down stamp col node cause)
raised_later a b may t stamp col node (Killed line) later is = ap (λ (o : Option NodeKill). max t (clock_at o)) (later node.0 (some_is (a node.0) is.0 is.1))
raised_later a b may t stamp col node (Fault count) later is = refl

-- ---- steps

entered_later : (w : Setting) (earlier : Kills) (r : Request) (s t after : ℕ) (done : Bool) (caller : _) (number stamp : ℕ) (call : _) (said : Reply) (left : Option Rebuilding)
    → IsLater earlier w.seen → IsEntered (seeing w earlier) r s t after done caller number stamp call said left
    → IsEntered w r s t after done caller number stamp call said left
entered_later w earlier r s t after done caller number stamp call said left is e = record {
  caller_is = e.caller_is;
  number_is = e.number_is;
  call_is = e.call_is;
  seen = reply_later earlier w.seen w.may said is e.seen;
  stamp_is = e.stamp_is;
  clock = e.clock;
  ends = e.ends;
  alone = e.alone;
}

marked_later : (w : Setting) (earlier : Kills) (s t after : ℕ) (done : Bool) (stamp col : ℕ) (node : NodeId) (cause : Cause) → IsLater earlier w.seen
    → IsSeenCause earlier w.may node.0 cause → IsMarked (seeing w earlier) s t after done (Down stamp col node cause) stamp
    → IsMarked w s t after done (Down stamp col node cause) stamp
marked_later w earlier s t after done stamp col node cause is seen m = record {
  stamp_is = m.stamp_is ∙ sym (ap (λ (x : ℕ). next_stamp s x) (raised_later earlier w.seen w.may t stamp col node cause is seen));
  clock = m.clock;
  goes_on = m.goes_on;
}

arrived_later : (w : Setting) (earlier : Kills) (r : Request) (s t after : ℕ) (done : Bool) (caller : _) (number first second : ℕ) (call : _)
    → IsArrived (seeing w earlier) r s t after done caller number first second call → IsArrived w r s t after done caller number first second call
arrived_later w earlier r s t after done caller number first second call a = record {
  caller_is = a.caller_is;
  number_is = a.number_is;
  call_is = a.call_is;
  first_is = a.first_is;
  second_is = a.second_is;
  clock = a.clock;
  ends = a.ends;
}

happens_later : (w : Setting) (earlier : Kills) (r : Request) (t after : ℕ) (done : Bool) (s u : Seg) (step : Step s u) → IsLater earlier w.seen
    → Happens (seeing w earlier) r t after done s u step → Happens w r t after done s u step
happens_later w earlier r t after done s u (begins b) is h = h
happens_later w earlier r t after done s u (applies j a) is h = h
happens_later w earlier r t after done s u (notes j i high below n) is h = h
happens_later w earlier r t after done s u (commits c) is h = entered_later w earlier r (clock_of s.log) t after done c.caller c.number c.stamp c.call reply.Done u.rebuild is h
happens_later w earlier r t after done s u (puts p) is h = entered_later w earlier r (clock_of s.log) t after done p.caller p.number p.stamp _ reply.Done u.rebuild is h
happens_later w earlier r t after done s u (spoils x) is h = h
happens_later w earlier r t after done s u (answers a) is h = entered_later w earlier r (clock_of s.log) t after done a.caller a.number a.stamp a.call a.reply u.rebuild is h
happens_later w earlier r t after done s u (loses l) is h = entered_later w earlier r (clock_of s.log) t after done l.caller l.number l.stamp l.call reply.Lost u.rebuild is h
happens_later w earlier r t after done s u (marks i below m) is h =
    (cause_later earlier w.seen w.may _ m.cause is h.0, marked_later w earlier (clock_of s.log) t after done m.stamp i _ m.cause is h.0 h.1)
happens_later w earlier r t after done s u (works i below x) is h = h
happens_later w earlier r t after done s u (aims a) is h = h
happens_later w earlier r t after done s u (fills f) is h = h
happens_later w earlier r t after done s u (rises x) is h = arrived_later w earlier r (clock_of s.log) t after done x.caller x.r.number x.first x.second _ h
happens_later w earlier r t after done s u (moves i below m) is h = arrived_later w earlier r (clock_of s.log) t after done m.caller m.number m.first m.second _ h

happened_later : (w : Setting) (earlier : Kills) (r : Request) (t after : ℕ) (done : Bool) (s u : Seg) (steps : Goes s u) → IsLater earlier w.seen
    → Happened (seeing w earlier) r t after done s u steps → Happened w r t after done s u steps
happened_later w earlier r t after done s u (stays v) is h = h
happened_later w earlier r t after done s u (goes a b c before step) is h =
    (h.0, happened_later w earlier r t h.0 false a b before is h.1, happens_later w earlier r h.0 after done b c step is h.2)

pub makes_later : (w : Setting) (earlier : Kills) (r : Request) (t after : ℕ) (done : Bool) (s u : Seg) → IsLater earlier w.seen → Makes (seeing w earlier) r t after done s u
    → Makes w r t after done s u
makes_later w earlier r t after done s u is m = record { steps = m.steps; happened = happened_later w earlier r t after done s u m.steps is m.happened }

-- ---- sweeps

sweeps_later : (w : Setting) (earlier : Kills) → IsLater earlier w.seen → (cols : List ℕ) (h : List Entry) (t : ℕ) (es : List Entry) (after : ℕ)
    → Sweeps (seeing w earlier) h t cols es after → Sweeps w h t cols es after
sweeps_later w earlier is [] h t es after s = s
sweeps_later w earlier is (i ∷ cols) h t es after (inl s) = inl (s.0, sweeps_later w earlier is cols h t es after s.1)
sweeps_later w earlier is (i ∷ cols) h t es after (inr s) =
    let c = s.4 in
    inr (
      s.0,
      s.1,
      s.2,
      s.3,
      record {
        live = c.live;
        there = c.there;
        seen = killed_later earlier w.seen s.2.0 s.1 is c.seen;
        stamp_is = c.stamp_is ∙ sym (ap (λ (x : ℕ). next_stamp (clock_of h) x) (raised_later earlier w.seen w.may t s.0 i s.2 (Killed s.1) is c.seen));
      },
      s.5,
      sweeps_later w earlier is cols (h ++ Down s.0 i s.2 (Killed s.1) ∷ []) s.0 s.3 after s.6,
    )

pub swept_later : (w : Setting) (earlier : Kills) (s : Seg) (t after : ℕ) (u : Seg) → IsLater earlier w.seen → Swept (seeing w earlier) s t after u → Swept w s t after u
swept_later w earlier s t after u is x = record { marks = x.marks; grown = x.grown; sweeps = sweeps_later w earlier is (range_with_len 0 s.site.shape.n) s.log t x.marks after x.sweeps }

target_later : (w : Setting) (earlier : Kills) (old new : Option Target) → IsLater earlier w.seen → SweepsTarget (seeing w earlier) old new → SweepsTarget w old new
target_later w earlier None new is x = x
target_later w earlier (Some t) new is (inl x) = inl x
target_later w earlier (Some t) new is (inr x) = inr (x.0, rw (is t.room.node.0 x.1) x.1)

rebuild_later : (w : Setting) (earlier : Kills) (old new : Option Rebuilding) → IsLater earlier w.seen → SweepsRebuild (seeing w earlier) old new → SweepsRebuild w old new
rebuild_later w earlier None new is x = x
rebuild_later w earlier (Some r) new is x = (x.0, x.1, target_later w earlier r.target x.0 is x.2)

pub sweeps_exactly_later : (w : Setting) (earlier : Kills) (s u : Seg) → IsLater earlier w.seen → SweepsExactly (seeing w earlier) s u → SweepsExactly w s u
sweeps_exactly_later w earlier s u is x = record { claims = x.claims; rebuild = rebuild_later w earlier s.rebuild u.rebuild is x.rebuild }

-- ---- what was known before

-- a setting that knows other kills
abbrev pub knowing : Setting → Kills → Setting
knowing w kills = record w { known = kills }

-- what the second doesn't know the first doesn't
abbrev pub IsUnknown : (earlier later : Kills) → Type 0
IsUnknown earlier later = (x : ℕ) → later x ≡ None → earlier x ≡ None

aimed_earlier : (a b : Kills) (s u : Seg) → IsUnknown a b → Aimed b s u → Aimed a s u
aimed_earlier a b s u is x = record {
  r = x.r;
  t = x.t;
  goal = x.goal;
  fresh = x.fresh;
  broken = x.broken;
  whole = x.whole;
  alive = is x.t.room.node.0 x.alive;
  becomes = x.becomes;
}

shifts_earlier : (a b : Kills) (s u : Seg) → IsUnknown a b → Shifts b s u → Shifts a s u
shifts_earlier a b s u is x = record { before = x.before; col = x.col; stays = x.stays; moves = x.moves; off = is x.moves.place.room.node.0 x.off; written = x.written; unread = x.unread }

pub exactly_earlier : (w : Setting) (later : Kills) (next : Next) (o : Outcome) (s u : Seg) → IsUnknown w.known later → Exactly (knowing w later) next o s u → Exactly w next o s u
exactly_earlier w later next (Held h) s u is x = tt
exactly_earlier w later next Moved s u is x = by next x where
  by : (n : Next) → GoesOnBy (knowing w later) n s u → GoesOnBy w n s u
  by step.RebuildStart y = aimed_earlier w.known later s u is y
  by step.Begin y = y
  by (step.Data j) y = y
  by (step.Parity j i) y = y
  by step.RebuildPiece y = y
  by step.RebuildEnd y = absurd y
  by step.Drain y = absurd y
  by step.Lost y = absurd y
  by step.Whole y = absurd y
  by step.Clear y = absurd y
  by step.Refuse y = absurd y
  by step.Read y = absurd y
  by step.Put y = absurd y
  by step.Merge y = absurd y
  by step.Tick y = absurd y
  by step.Upgrade y = absurd y
  by step.Commit y = absurd y
  by (step.Held h) y = absurd y
exactly_earlier w later next (Answered position stamp) s u is x = by next x where
  by : (n : Next) → AnswersBy (knowing w later) n s u → AnswersBy w n s u
  by step.Drain (inl y) = inl y
  by step.Drain (inr y) = inr (shifts_earlier w.known later s u is y)
  by step.RebuildStart y = y
  by step.Begin y = y
  by (step.Data j) y = y
  by (step.Parity j i) y = y
  by step.RebuildPiece y = absurd y
  by step.RebuildEnd y = y
  by step.Lost y = y
  by step.Whole y = y
  by step.Clear y = y
  by step.Refuse y = y
  by step.Read y = y
  by step.Put y = y
  by step.Merge y = y
  by step.Tick y = y
  by step.Upgrade y = y
  by step.Commit y = y
  by (step.Held h) y = absurd y
