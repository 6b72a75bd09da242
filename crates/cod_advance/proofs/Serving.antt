-- An event of a segment is a turn's.
use Rattle.std.proofs.Common.{◌≡◌, ◌≢◌, inl, inr, ℕ, ◌+◌, Bool, true, false, None, Some, Option, List, [], ◌∷◌, ◌++◌, length, refl, sym, ap, ◌∙◌, subst, arith}
use Rattle.std.specs.List.{AllByRecursion, range_with_len}
use Rattle.std.proofs.lemmas.Bool.{false≢true}
use Rattle.std.proofs.lemmas.List.{append-nil, append_assoc, length-append}
use Rattle.cod_claims.specs.declared.claim.Claim.{Claim}
use Rattle.cod_claims.specs.declared.claims.Held.{Held as Holder}
use Rattle.cod_claims.specs.Slips.{Paper}
use Rattle.cod_chronicle.specs.declared.entry.Entry.{Entry}
use Rattle.cod_chronicle.specs.Adding.{StaysOff}
use Rattle.cod_chronicle.proofs.Adding.{adds_more}
use Rattle.cod_chronicle.specs.Event.{IsSwept, Request, Setting, Stamped, Tells}
use Rattle.cod_chronicle.specs.Growing.{HasGrown}
use Rattle.cod_chronicle.specs.Legal.{LegalAfter}
use Rattle.cod_chronicle.specs.Said.{clock_of, Site}
use Rattle.cod_chronicle.specs.Sweep.{Sweeps}
use Rattle.cod_seg.specs.Next.{next_step, open_in, open_of}
use Rattle.cod_seg.specs.Seg.{Rebuilding, Seg}
use Rattle.cod_seg.specs.Sound.{Sound}
use Rattle.cod_seg.proofs.Going.{goes_keep}
use Rattle.cod_seg.proofs.Growing.{goes_grows}
use Rattle.cod_seg.proofs.Happening.{event_grows, event_keeps_open}
use Rattle.cod_seg.proofs.Serving.{held_by_open, open_is_free}
use Rattle.cod_segment.specs.declared.asking.Outcome.{Outcome}
use Rattle.cod_segment.specs.declared.asking.Outcome.TheVariants as outcome
use Rattle.cod_segment.specs.Advancing.{Follows, IsAdvanced}
use Rattle.cod_segment.specs.Events.{IsAsked, Makes, Swept}
use Rattle.cod_segment.specs.Exact.{AnswersBy, SweepsExactly, SweepsRebuild, Turns}
use Rattle.cod_turns.specs.Turns.{Comes, is_answered, is_held}
use Rattle.cod_turns.specs.declared.turned.Turned.{Turned}
use Rattle.cod_turns.specs.declared.turned.Turned.TheVariants.{Held, Moved, Answered}
use Rattle.cod_advance.specs.Served.{EventIsStep, EventIsTurn, IsEvent, SteppedIsStep, turned_by}
use Rattle.cod_advance.proofs.Staying.{BringsNone, staying, staying_off, swept_event, swept_then, told_then}
use Rattle.cod_advance.proofs.Coming.{answers_off}

-- ---- what is open behind a sweep

swept_open : (w : Setting) (c : ℕ) (claims : List (Option Claim)) (old new : Option Rebuilding) → SweepsRebuild w old new → open_of c claims new ≡ open_of c claims old
swept_open w c claims None new is = rw is refl
swept_open w c claims (Some r) new is = rw is.1 refl

-- A sweep leaves what each caller has open.
pub sweep_keeps_open : (w : Setting) (s u : Seg) (c : ℕ) → SweepsExactly w s u → open_in u c ≡ open_in s c
sweep_keeps_open w s u c is = ap (λ (l : List (Option Claim)). open_of c l u.rebuild) is.claims ∙ swept_open w c s.claims s.rebuild u.rebuild is.rebuild

-- ---- what the event is behind its sweep

-- Its steps, where it makes some.
pub record IsMade (w : Setting) (r : Request) (t after : ℕ) (answered : Bool) (s u : Seg) : Type 0 where
  pub grows : HasGrown w r s.log t u.log after answered
  pub sound : Sound u
  pub site : u.site ≡ s.site
  pub frail : u.frail ≡ s.frail
  pub others : (c : ℕ) → c ≢ r.caller → open_in u c ≡ open_in s c

pub made : (w : Setting) (r : Request) (t after : ℕ) (answered : Bool) (s u : Seg) → w.site ≡ s.site → Sound s → Makes w r t after answered s u → IsMade w r t after answered s u
made w r t after answered s u at sound makes =
    let g = goes_grows s u makes.steps in
    record {
      grows = event_grows w r t after answered s u makes.steps at sound makes.happened;
      sound = goes_keep s u sound makes.steps;
      site = g.site;
      frail = g.frail;
      others = λ c other. event_keeps_open w r t after c answered s u makes.steps sound makes.happened other;
    }

-- The entries of an event: the sweep's, and what comes behind it.
record IsParted (w : Setting) (r : Request) (t after : ℕ) (held answered : Bool) (s u : Seg) : Type 0 where
  marks : List Entry
  clock : ℕ
  rest : List Entry
  grown : u.log ≡ s.log ++ (marks ++ rest)
  sweeps : Sweeps w s.log t (range_with_len 0 w.site.shape.n) marks clock
  waits : held ≡ true → rest ≡ []
  tells : Tells w r rest answered
  stamped : Stamped w.seen (clock_of (s.log ++ marks)) clock rest after
  legal : LegalAfter w.site (s.log ++ marks) rest
  off : AllByRecursion (StaysOff w.known) rest

-- What an event leaves, on any board.
record IsLed (w : Setting) (r : Request) (t after : ℕ) (turned : Turned) (s u : Seg) : Type 0 where
  parts : IsParted w r t after (is_held turned) (is_answered turned) s u
  comes : Comes r after u.log (open_in s) (open_in u) turned
  others : (c : ℕ) → c ≢ r.caller → open_in u c ≡ open_in s c
  site : u.site ≡ s.site
  frail : u.frail ≡ s.frail
  sound : Sound u

-- The sweep, with what comes behind it.
module _ (w : Setting) (r : Request) (t clock : ℕ) (s mid : Seg) (sound : Sound s) (at : w.site ≡ s.site) (swept : Swept w s t clock mid)
    (exact : SweepsExactly w s mid) (sweeps : Makes w r t clock false s mid) where
  first : IsMade w r t clock false s mid
  first = made w r t clock false s mid at sound sweeps

  swept_in : Sweeps w s.log t (range_with_len 0 w.site.shape.n) swept.marks clock
  swept_in = subst (λ (q : Site). Sweeps w s.log t (range_with_len 0 q.shape.n) swept.marks clock) (sym at) swept.sweeps

  at_mid : w.site ≡ mid.site
  at_mid = at ∙ sym first.site

  -- steps come
  steps_lead : (after : ℕ) (turned : Turned) (u : Seg) → is_held turned ≡ false → (m : IsMade w r clock after (is_answered turned) mid u)
      → AllByRecursion (StaysOff w.known) m.grows.entries → Comes r after u.log (open_in s) (open_in u) turned → IsLed w r t after turned s u
  steps_lead after turned u goes m off comes = record {
    parts = record {
      marks = swept.marks;
      clock = clock;
      rest = m.grows.entries;
      grown = m.grows.grown ∙ ap (λ (l : List Entry). l ++ m.grows.entries) swept.grown ∙ append_assoc s.log swept.marks m.grows.entries;
      sweeps = swept_in;
      waits = λ e. absurd (false≢true (sym goes ∙ e));
      tells = m.grows.adds.tells;
      stamped = subst (λ (l : List Entry). Stamped w.seen (clock_of l) clock m.grows.entries after) swept.grown m.grows.adds.stamped;
      legal = subst (λ (l : List Entry). LegalAfter w.site l m.grows.entries) swept.grown m.grows.adds.legal;
      off = off;
    };
    comes = comes;
    others = λ c other. m.others c other ∙ sweep_keeps_open w s mid c exact;
    site = m.site ∙ first.site;
    frail = m.frail ∙ first.frail;
    sound = m.sound;
  }

  -- a call is held: nothing comes
  held_leads : (after : ℕ) (h : Holder) (u : Seg) (p : Paper) → IsAsked s r.caller r.number p r.call → Follows w r clock after (outcome.Held h) mid u
      → IsLed w r t after (Held h.owner h.number) s u
  held_leads after h u p asked follows =
      let idle : open_in s r.caller ≡ None = elim asked.state [
        | inl a ↦ a.0
        | inr a ↦ absurd (open_is_free mid r.caller r.number r.call h first.sound (sweep_keeps_open w s mid r.caller exact ∙ a.0) follows.0)
      ] in
      let o = held_by_open mid r.caller r.call h first.sound follows.0 in
      let stays : (c : ℕ) → open_in u c ≡ open_in s c = λ c. ap (λ (x : Seg). open_in x c) follows.1 ∙ sweep_keeps_open w s mid c exact in
      record {
        parts = record {
          marks = swept.marks;
          clock = clock;
          rest = [];
          grown = ap (λ (x : Seg). x.log) follows.1 ∙ swept.grown ∙ ap (λ (l : List Entry). s.log ++ l) (sym (append-nil swept.marks));
          sweeps = swept_in;
          waits = λ e. refl;
          tells = refl;
          stamped = follows.2;
          legal = tt;
          off = tt;
        };
        comes = (idle, stays r.caller ∙ idle, record { other = o.0; call = o.1; holds = sym (sweep_keeps_open w s mid h.owner.0 exact) ∙ o.2 });
        others = λ c other. stays c;
        site = ap (λ (x : Seg). x.site) follows.1 ∙ first.site;
        frail = ap (λ (x : Seg). x.frail) follows.1 ∙ first.frail;
        sound = subst Sound (sym follows.1) first.sound;
      }

  moved_leads : (after : ℕ) (u : Seg) (old new : Paper) → Follows w r clock after outcome.Moved mid u → IsAdvanced outcome.Moved r after u old new → IsLed w r t after Moved s u
  moved_leads after u old new follows advanced =
      let m = made w r clock after false mid u at_mid first.sound follows.0 in
      let stay = staying w r w.site mid.log m.grows.entries false (λ a e f. absurd (false≢true f)) m.grows.adds.tells m.grows.adds.legal in
      steps_lead after Moved u refl m (staying_off w.known m.grows.entries stay) advanced.0

  answered_leads : (after position stamp : ℕ) (u : Seg) (old new : Paper) → Follows w r clock after (outcome.Answered position stamp) mid u
      → AnswersBy w (next_step mid r.caller r.call) mid u → IsAdvanced (outcome.Answered position stamp) r after u old new → IsLed w r t after (Answered position stamp) s u
  answered_leads after position stamp u old new follows by advanced =
      let m = made w r clock after true mid u at_mid first.sound follows.0 in
      let none : BringsNone r.call → AllByRecursion (StaysOff w.known) m.grows.entries = λ b. staying_off w.known m.grows.entries
      (staying w r w.site mid.log m.grows.entries true (λ a e f. subst BringsNone e b) m.grows.adds.tells m.grows.adds.legal) in
      let off = answers_off w mid u m.grows.entries m.grows.grown r.caller r.call s.rebuild exact.rebuild by none in
      let last = advanced.2 in
      let long : length u.log ≡ length last.0 + 1 = ap length last.2 ∙ length-append last.0 (last.1 ∷ []) in
      let place = last.3 in
      steps_lead after (Answered position stamp) u refl m off (advanced.0, omega (arith, long, place), advanced.1)

leads : (w : Setting) (r : Request) (t after : ℕ) (o : Outcome) (s u : Seg) (old new : Paper) → Sound s → w.site ≡ s.site → IsAsked s r.caller r.number old r.call
    → (turns : Turns w r t after o s u) → IsAdvanced o r after u old new → IsLed w r t after (turned_by o) s u
leads w r t after outcome.Moved s u old new sound at asked turns advanced =
    let a = turns.advances in
    moved_leads w r t a.clock s a.mid sound at a.swept turns.sweeps a.sweeps after u old new a.follows advanced
leads w r t after (outcome.Answered position stamp) s u old new sound at asked turns advanced =
    let a = turns.advances in
    answered_leads w r t a.clock s a.mid sound at a.swept turns.sweeps a.sweeps after position stamp u old new a.follows turns.exact advanced
leads w r t after (outcome.Held h) s u old new sound at asked turns advanced =
    let a = turns.advances in
    held_leads w r t a.clock s a.mid sound at a.swept turns.sweeps a.sweeps after h u old asked a.follows

led : (w : Setting) (r : Request) (t after : ℕ) (o : Outcome) (s u : Seg) → IsEvent w r t after o s u → IsLed w r t after (turned_by o) s u
led w r t after o s u e = leads w r t after o s u e.old e.new e.sound e.setting.site e.asked e.turns e.advanced

-- ---- the laws

pub event_is_step : EventIsStep
event_is_step w r t after o s u e =
    let l = led w r t after o s u e in
    let p = l.parts in
    let first = swept_event w r s.log t p.marks p.clock p.sweeps in
    record {
      entries = p.marks ++ p.rest;
      grown = p.grown;
      event = record {
        adds = adds_more w r s.log p.marks p.rest t p.clock after (is_answered (turned_by o)) first.adds p.tells p.stamped p.legal;
        swept = subst (IsSwept w.known w.site) (append_assoc s.log p.marks p.rest) (swept_then w (s.log ++ p.marks) p.rest p.off first.swept);
      };
      comes = l.comes;
      others = l.others;
      site = l.site;
      frail = l.frail;
      sound = l.sound;
    }

pub event_is_turn : EventIsTurn
event_is_turn w r t after o s u e calm =
    let l = led w r t after o s u e in
    let p = l.parts in
    record {
      entries = p.marks ++ p.rest;
      grown = p.grown;
      event = record {
        swept = p.marks;
        clock = p.clock;
        rest = p.rest;
        are = refl;
        sweeps = p.sweeps;
        waits = p.waits;
        tells = told_then w r (s.log ++ p.marks) p.rest (is_answered (turned_by o)) calm (swept_event w r s.log t p.marks p.clock p.sweeps).swept p.off p.legal p.tells;
        stamped = p.stamped;
        legal = p.legal;
        off = p.off;
      };
      comes = l.comes;
      others = l.others;
      site = l.site;
      frail = l.frail;
      sound = l.sound;
    }

pub stepped_is_step : SteppedIsStep
stepped_is_step w r t after turned s u is = record {
  known = w.known;
  seen = w.seen;
  number = r.number;
  call = r.call;
  clock = t;
  entries = is.entries;
  after = after;
  answered = is_answered turned;
  event = is.event;
  grown = is.grown;
}
