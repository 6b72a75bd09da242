-- A call that is lost: the caller's rebuild is given up, its claims end, and it is answered.
use Rattle.std.proofs.Common.{◌≡◌, ◌⊎◌, inl, inr, ℕ, [], ◌∷◌, ◌++◌, length, Bool, true, false, cond, Option, Some, None, refl, ap, ◌∙◌, subst}
use Rattle.std.specs.Prelude.{◌==◌, is_some}
use Rattle.std.proofs.lemmas.Bool.{both_ways, eq-eqb, eqb-true}
use Rattle.cod_types.specs.Plain.{refusal}
use Rattle.cod_types.specs.declared.call.Call.{Call as Asked}
use Rattle.cod_types.specs.declared.call.Caller.{Caller}
use Rattle.cod_types.specs.declared.call.Reply.TheVariants.{Lost}
use Rattle.cod_chronicle.specs.declared.entry.Entry.TheVariants.{Call}
use Rattle.cod_chronicle.specs.Event.{Request, Setting}
use Rattle.cod_chronicle.specs.Said.{clock_of, is_over, next_stamp, StampFollows}
use Rattle.cod_claims.specs.Claimed.{without_claims}
use Rattle.cod_claims.specs.Slips.{Paper}
use Rattle.cod_seg.specs.Happens.{Happens, IsOwnAim}
use Rattle.cod_seg.specs.Next.{next_served, next_step, open_in}
use Rattle.cod_seg.specs.Seg.{Rebuilding, Seg}
use Rattle.cod_seg.specs.Sound.{IsOther}
use Rattle.cod_seg.specs.Steps.{Aims, aims, goes, Loses, loses, stays, Step}
use Rattle.cod_seg.specs.declared.next.Step.TheVariants as step
use Rattle.cod_seg.proofs.Choosing.{none_is}
use Rattle.cod_claims.proofs.Opening.{nothing_open}
use Rattle.cod_seg.proofs.Happening.{open_alone}
use Rattle.cod_segment.specs.declared.asking.Outcome.TheVariants.{Answered}
use Rattle.cod_segment.specs.Events.{IsAsked, IsOutcome, Makes, request_of}
use Rattle.cod_segment.specs.Exact.{Stays}
use Rattle.cod_segment.proofs.Answering.{IsStepOf, step_of}
use Rattle.cod_recovery.specs.Leaving.{left_by}

-- ---- chains of steps

pub nothing_made : (w : Setting) (r : Request) (t : ℕ) (s u : Seg) → u ≡ s → Makes w r t t false s u
nothing_made w r t s u same = rw same (record { steps = stays s; happened = record { clock = refl; goes_on = refl } })

pub more : (w : Setting) (r : Request) (t mid after : ℕ) (done : Bool) (s u v : Seg) → Makes w r t mid false s u → (is : Step u v) → Happens w r mid after done u v is
    → Makes w r t after done s v
more w r t mid after done s u v made is happens = record { steps = goes s u v made.steps is; happened = (mid, made.happened, happens) }

-- ---- the caller's rebuild

pub left_is_other : (caller : ℕ) (o : Option Rebuilding) → IsOther caller (left_by caller o)
left_is_other caller None = tt
left_is_other caller (Some r) = by (r.caller == caller) refl where
  by : (b : Bool) → (r.caller == caller) ≡ b → IsOther caller (cond b None (Some r))
  by true e = tt
  by false e = λ same. both_ways (r.caller == caller) e (eq-eqb r.caller caller same)

-- what is left is the same, or the rebuild was the caller's and nothing is left
left_either : (caller : ℕ) (o : Option Rebuilding) → (left_by caller o ≡ o) ⊎ ((r : Rebuilding) × (o ≡ Some r) × (r.caller ≡ caller) × (left_by caller o ≡ None))
left_either caller None = inl refl
left_either caller (Some r) = by (r.caller == caller) refl where
  by : (b : Bool) → (r.caller == caller) ≡ b → (cond b None (Some r) ≡ Some r) ⊎ ((q : Rebuilding) × (Some r ≡ Some q) × (q.caller ≡ caller) × (cond b None (Some r) ≡ None))
  by true e = inr (r, refl, eqb-true r.caller caller e, refl)
  by false e = inl refl

-- a rebuild that ends aims at nothing
ends : (s u : Seg) → u ≡ record s { rebuild = None } → Aims s u
ends s u becomes = rw becomes (record {
  goal = tt;
  idle = tt;
  same = λ r q was is. (let wrong : ⊥ = cc in absurd wrong);
  nothing = λ r t is goal. (let wrong : ⊥ = cc in absurd wrong);
  becomes = refl;
})

own_aim : (r : Request) (o left : Option Rebuilding) (q : Rebuilding) → o ≡ Some q → q.caller ≡ r.caller → left ≡ None → IsOwnAim r o left
own_aim r o left q is mine gone = rw (is, gone) mine

pub leaves : (w : Setting) (r : Request) (t : ℕ) (s : Seg) → Makes w r t t false s (record s { rebuild = left_by r.caller s.rebuild })
leaves w r t s = by (left_either r.caller s.rebuild) where
  left : Seg
  left = record s { rebuild = left_by r.caller s.rebuild }

  by : (left_by r.caller s.rebuild ≡ s.rebuild) ⊎ ((q : Rebuilding) × (s.rebuild ≡ Some q) × (q.caller ≡ r.caller) × (left_by r.caller s.rebuild ≡ None)) → Makes w r t t false s left
  by (inl same) = nothing_made w r t s left (ap (λ (o : Option Rebuilding). record s { rebuild = o }) same)
  by (inr own) = more w r t t t false s s left (nothing_made w r t s s refl)
      (aims (ends s left (ap (λ (o : Option Rebuilding). record s { rebuild = o }) own.3)))
      (own_aim r s.rebuild (left_by r.caller s.rebuild) own.0 own.1 own.2 own.3, record { clock = refl; goes_on = refl })

-- ---- the loss

-- a call that is lost next isn't refused, and too many columns are down
pub is_lost : (s : Seg) (caller : ℕ) (call : Asked) → next_step s caller call ≡ step.Lost → (refusal s.site.shape call ≡ None) × (is_over s.site s.log ≡ true)
is_lost s caller call is = by (is_some (refusal s.site.shape call)) (is_over s.site s.log) refl is where
  by : (a o : Bool) → is_some (refusal s.site.shape call) ≡ a → cond a step.Refuse (cond o step.Lost (next_served s caller call)) ≡ step.Lost
      → (refusal s.site.shape call ≡ None) × (o ≡ true)
  by true o e f = cc
  by false true e f = (none_is (refusal s.site.shape call) e, refl)
  by false false e f = (let wrong : ⊥ = subst (IsStepOf call) f (step_of s caller call) in absurd wrong)

-- what is left of a segment
abbrev pub lost_seg : Seg → Caller → (number stamp : ℕ) → Asked → Seg
lost_seg s caller number stamp call = record s {
  claims = without_claims caller.0 s.claims;
  rebuild = left_by caller.0 s.rebuild;
  log = s.log ++ Call caller number stamp call Lost ∷ [];
}

abbrev the_loss : (s : Seg) (caller : Caller) (number stamp : ℕ) (p : Paper) (call : Asked) → IsAsked s caller.0 number p call → next_step s caller.0 call ≡ step.Lost
    → StampFollows s.log stamp → Loses (record s { rebuild = left_by caller.0 s.rebuild }) (lost_seg s caller number stamp call)
the_loss s caller number stamp p call asked is follows =
    let lost = is_lost s caller.0 call is in
    record {
      caller = caller;
      number = number;
      stamp = stamp;
      call = call;
      over = lost.1;
      follows = follows;
      newest = asked.newest;
      free = lost.0;
      becomes = refl;
    }

pub makes_lost : (w : Setting) (s u : Seg) (caller : Caller) (number stamp t : ℕ) (p : Paper) (call : Asked) → IsAsked s caller.0 number p call
    → next_step s caller.0 call ≡ step.Lost → stamp ≡ next_stamp (clock_of s.log) t → StampFollows s.log stamp → u ≡ lost_seg s caller number stamp call
    → Makes w (request_of caller.0 number call) t stamp true s u
makes_lost w s u caller number stamp t p call asked is next follows becomes =
    let r = request_of caller.0 number call in
    rw becomes (more w r t t stamp true s (record s { rebuild = left_by caller.0 s.rebuild }) (lost_seg s caller number stamp call) (leaves w r t s)
    (loses (the_loss s caller number stamp p call asked is follows))
    (record {
      caller_is = refl;
      number_is = refl;
      call_is = refl;
      seen = tt;
      stamp_is = next;
      clock = refl;
      ends = refl;
      alone = left_is_other caller.0 s.rebuild;
    }))

pub brings_none : (s u : Seg) (caller : Caller) (number stamp : ℕ) (call : Asked) → u ≡ lost_seg s caller number stamp call → Stays s u
brings_none s u caller number stamp call becomes = record {
  entries = Call caller number stamp call Lost ∷ [];
  grown = ap (λ (x : Seg). x.log) becomes;
  staying = (tt, tt);
}

pub lost_outcome : (s u : Seg) (caller : Caller) (number stamp : ℕ) (call : Asked) (p : Paper) → u ≡ lost_seg s caller number stamp call → p.reply ≡ Some Lost
    → IsOutcome (Answered (length s.log) stamp) (request_of caller.0 number call) stamp u p
lost_outcome s u caller number stamp call p becomes told = (
  ap (λ (x : Seg). open_in x caller.0) becomes
      ∙ open_alone caller.0 (without_claims caller.0 s.claims) (left_by caller.0 s.rebuild) (left_is_other caller.0 s.rebuild)
      ∙ nothing_open caller.0 s.claims,
  refl,
  (s.log, Call caller number stamp call Lost, ap (λ (x : Seg). x.log) becomes, refl, rw told refl),
)
