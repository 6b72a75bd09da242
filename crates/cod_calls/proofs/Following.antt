-- An event of a segment is one step, for those that take it in turns.
use Rattle.std.proofs.Common.{ℕ, Bool, true, false, if◌then◌else◌, Option, Some, None, refl, sym, ◌∙◌, subst}
use Rattle.cod_types.specs.declared.call.Call.{Call as Asked}
use Rattle.cod_region.specs.Device.{Device}
use Rattle.cod_chronicle.specs.Event.{Request, Setting}
use Rattle.cod_chronicle.specs.Standing.{Follows}
use Rattle.cod_chronicle.proofs.Stepping.{step_leads_on}
use Rattle.cod_claims.specs.declared.claims.Held.{Held as Holder}
use Rattle.cod_seg.specs.Calls.{nothing}
use Rattle.cod_seg.specs.Next.{next_step, open_in}
use Rattle.cod_seg.specs.Seg.{col_at, Rebuilding, Seg, Target}
use Rattle.cod_seg.specs.Steps.{stays}
use Rattle.cod_seg.specs.declared.next.Step.TheVariants as step
use Rattle.cod_seg.proofs.Growing.{goes_grows}
use Rattle.cod_segment.specs.declared.asking.Outcome.{Outcome}
use Rattle.cod_segment.specs.declared.asking.Outcome.TheVariants.{Moved, Answered, Held}
use Rattle.cod_segment.specs.Advancing.{Follows as Leads}
use Rattle.cod_segment.specs.Events.{Costs, Counts, CountsRebuild, CountsTarget, is_answered, Makes, NoneFails}
use Rattle.cod_stripe.specs.Standing.{gauge_of, IsStep, name_of}
use Rattle.cod_advance.specs.Served.{IsEvent, IsStepped, turned_by}
use Rattle.cod_advance.proofs.Serving.{event_is_step, stepped_is_step}
use Rattle.cod_pass.specs.Places.{SamePlace}
use Rattle.cod_pass.proofs.Naming.{same_name}

-- ---- what comes behind the sweep

counts_none : (b : Bool) (d : Device) → Counts (if b then nothing else nothing) d d
counts_none true d = (refl, refl)
counts_none false d = (refl, refl)

none_on : (old : Option Target) → CountsTarget nothing old old
none_on None = tt
none_on (Some t) = (refl, refl)

none_for : (s : Seg) (caller : ℕ) (h : Holder) (r : Option Rebuilding) → CountsRebuild s caller (step.Held h) r r
none_for s caller h None = tt
none_for s caller h (Some r) = λ t is. none_on r.target

-- a call that waits makes no device call
waits_free : (s : Seg) (caller : ℕ) (call : Asked) (h : Holder) → Costs s caller call (step.Held h) s
waits_free s caller call h = record {
  columns = λ i lt same. counts_none (col_at s.cols i).is_up (col_at s.cols i).state.device;
  target = none_for s caller h s.rebuild;
}

-- The steps behind a sweep, none where the call waits.
record Behind (w : Setting) (r : Request) (t after : ℕ) (answered : Bool) (s u : Seg) : Type 0 where
  made : Makes w r t after answered s u
  costs : NoneFails s u → Costs s r.caller r.call (next_step s r.caller r.call) u

behind : (w : Setting) (r : Request) (t after : ℕ) (o : Outcome) (s u : Seg) → Leads w r t after o s u → Behind w r t after (is_answered o) s u
behind w r t after Moved s u leads = record { made = leads.0; costs = leads.1 }
behind w r t after (Answered position stamp) s u leads = record { made = leads.0; costs = leads.1 }
behind w r t after (Held h) s u leads =
    subst (λ (x : Seg). Behind w r t after false s x) (sym leads.1) record {
      made = record { steps = stays s; happened = record { clock = leads.2; goes_on = refl } };
      costs = λ none. subst (λ (x : _). Costs s r.caller r.call x s) (sym leads.0) (waits_free s r.caller r.call h);
    }

-- ---- the event

module _ (w : Setting) (r : Request) (t after : ℕ) (o : Outcome) (s u : Seg) (e : IsEvent w r t after o s u) where
  stepped : IsStepped w r t after (turned_by o) s u
  stepped = event_is_step w r t after o s u e

  -- it leaves the segment at its place
  pub same_place : SamePlace s u
  same_place =
      let a = e.turns.advances in
      let first = goes_grows s a.mid a.sweeps.steps in
      let second = goes_grows a.mid u (behind w r a.clock after o a.mid u a.follows).made.steps in
      record { site = stepped.site; frail = stepped.frail; pools = second.pools ∙ first.pools }

  pub follows : Follows name_of (λ (x : Seg). x.log) gauge_of open_in IsStep r.caller s u
  follows =
      let a = e.turns.advances in
      let b = behind w r a.clock after o a.mid u a.follows in
      let q = step_leads_on w.site w.may r.caller s.log u.log (stepped_is_step w r t after (turned_by o) s u stepped) in
      record {
        name_stays = same_name s u same_place;
        added = q.added;
        grown = q.grown;
        calls = q.calls;
        others = stepped.others;
        happens = record {
          before = s;
          mid = a.mid;
          after = u;
          w = w;
          r = r;
          clock = t;
          swept_clock = a.clock;
          last_clock = after;
          answered = is_answered o;
          own = refl;
          sound = e.sound;
          setting = e.setting;
          sweeps = a.swept;
          swept = a.sweeps;
          made = b.made;
          costs = b.costs;
          old_is = refl;
          gauge_is = refl;
          open_is = λ c. refl;
          now_is = refl;
          gauge_now_is = refl;
          open_now_is = λ c. refl;
        };
      }
