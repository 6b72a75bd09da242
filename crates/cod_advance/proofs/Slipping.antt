-- Slips at each moment of a run.
use Rattle.std.proofs.Common.{◌≡◌, ◌≢◌, ◌⊎◌, inl, inr, ℕ, ◌<◌, Bool, true, false, Option, Some, None, List, length, map, take, refl, sym, ap, ◌∙◌, subst, arith}
use Rattle.std.specs.Prelude.{slice_get}
use Rattle.std.specs.List.{All}
use Rattle.std.specs.Option.{option_map}
use Rattle.std.proofs.lemmas.Bool.{cases_eq, cases_lt, false≢true}
use Rattle.std.proofs.lemmas.List.{get_or_past}
use Rattle.std.proofs.lemmas.Option.{slice_get-get_or, slice_get-map}
use Rattle.cod_types.specs.declared.call.Call.{Call as Asked}
use Rattle.cod_types.specs.declared.call.SegId.{SegId}
use Rattle.cod_chronicle.specs.Event.{Kills as Board, Request, Setting}
use Rattle.cod_chronicle.specs.Said.{numbers_by, Site}
use Rattle.cod_claims.specs.Slips.{Paper, prepared}
use Rattle.cod_script.specs.declared.line.Line.{Line}
use Rattle.cod_script.specs.declared.line.What.TheVariants.{Segment}
use Rattle.cod_script.specs.Script.{asks, lines_by, Script}
use Rattle.cod_script.specs.Sound.{IsScenario}
use Rattle.cod_seg.specs.Next.{open_in}
use Rattle.cod_seg.specs.Seg.{Seg}
use Rattle.cod_segment.specs.declared.asking.Outcome.{Outcome}
use Rattle.cod_segment.specs.declared.asking.Outcome.TheVariants as outcome
use Rattle.cod_segment.specs.Advancing.{IsAdvanced}
use Rattle.cod_segment.specs.Events.{HasBegun, request_of}
use Rattle.cod_turns.specs.Open.{AreItsCalls}
use Rattle.cod_turns.specs.Turns.{Course, is_answered, IsLineAt, line_after, setting, start}
use Rattle.cod_turns.proofs.Lists.{one_at, take_front}
use Rattle.cod_turns.proofs.Opening.{no_call, one_segment, open_is_of_its_line}
use Rattle.cod_turns.proofs.Running.{start_sound, turns}
use Rattle.cod_advance.specs.Moments.{AreSlips, FailingKeepsSlips, FirstHasSlips, IsMoment, IsSlipFor, IsWholeSlip, ServingKeepsSlips, SlipIsAsked, SlipsGoOn}
use Rattle.cod_advance.specs.Served.{IsServed, turned_by}
use Rattle.cod_advance.specs.Worlds.{AreSegmentsOf, HasServed, no_seg, Places, seg_at, world_of}
use Rattle.cod_advance.proofs.Lining.{line_is_dated, line_is_there}
use Rattle.cod_advance.proofs.Serving.{event_is_turn}
use Rattle.cod_advance.proofs.Worldly.{elsewhere, happened, here, new_open, serving_keeps}

-- ---- one slip

-- a whole one, where nothing is open
fresh_slip : (s : Seg) (who : ℕ) (call : Asked) (p : Paper) → open_in s who ≡ None → p ≡ prepared s.site.shape call → IsSlipFor s who call p
fresh_slip s who call p none whole = record { whole = λ e. whole; begun = λ o e. let wrong : None ≡ Some o = sym none ∙ e in cc }

-- one that stays, where what is open stays
kept_slip : (s u : Seg) (who : ℕ) (call : Asked) (p : Paper) → u.site ≡ s.site → open_in u who ≡ open_in s who → IsSlipFor s who call p → IsSlipFor u who call p
kept_slip s u who call p site same is = record {
  whole = λ e. is.whole (sym same ∙ e) ∙ ap (λ (q : Site). prepared q.shape call) (sym site);
  begun = λ o e. is.begun o (sym same ∙ e);
}

-- the same call at one place
one_line : (x : Script) (who i : ℕ) (l m : Line) → IsLineAt x who i l → IsLineAt x who i m → l ≡ m
one_line x who i l m a b = one_at a.front a.rest b.front b.rest l m (sym a.lines ∙ b.lines) (a.place ∙ sym b.place)

one_call : (x : Script) (who i line other : ℕ) (seg seg2 : SegId) (call call2 : Asked) → IsLineAt x who i (record { line = line; what = Segment seg call })
    → IsLineAt x who i (record { line = other; what = Segment seg2 call2 }) → call ≡ call2
one_call x who i line other seg seg2 call call2 a b =
    let e = one_line x who i (record { line = line; what = Segment seg call }) (record { line = other; what = Segment seg2 call2 }) a b in
    let w : Segment seg call ≡ Segment seg2 call2 = ap (λ (l : Line). l.what) e in
    cc

at_as : (x : Script) (who i j : ℕ) (l : Line) → i ≡ j → IsLineAt x who i l → IsLineAt x who j l
at_as x who i j l e a = record { front = a.front; rest = a.rest; lines = a.lines; place = a.place ∙ e }

-- ---- what is open at a moment

its_calls : (x : Course) (segs : List Seg) (board : Board) (places : Places) → IsMoment x segs board places → AreItsCalls x.script (world_of segs board places)
its_calls x segs board places m = open_is_of_its_line x m.turns (world_of segs board places) m.led

-- a client has open no call but its line's
open_none : (o : Option (ℕ × Asked)) → ((n : ℕ) (call : Asked) → o ≡ Some (n, call) → ⊥) → o ≡ None
open_none None never = refl
open_none (Some q) never = absurd (never q.0 q.1 refl)

-- ---- what an event asks

asked_state : (s : Seg) (who number : ℕ) (call : Asked) (p : Paper) → IsSlipFor s who call p
    → ((n : ℕ) (q : Asked) → open_in s who ≡ Some (n, q) → (n ≡ number) × (q ≡ call))
    → ((open_in s who ≡ None) × (p ≡ prepared s.site.shape call)) ⊎ ((open_in s who ≡ Some (number, call)) × HasBegun p call)
asked_state s who number call p slip opens = by (open_in s who) refl where
  by : (o : Option (ℕ × Asked)) → open_in s who ≡ o → ((open_in s who ≡ None) × (p ≡ prepared s.site.shape call)) ⊎ ((open_in s who ≡ Some (number, call)) × HasBegun p call)
  by None e = inl (e, slip.whole e)
  by (Some q) e =
      let is = opens q.0 q.1 e in
      inr (e ∙ ap (λ (n : ℕ). Some (n, q.1)) is.0 ∙ ap (λ (c : Asked). Some (number, c)) is.1, slip.begun q e)

pub slip_is_asked : SlipIsAsked
slip_is_asked x segs board places who line seg call p scenario m at slip =
    let there = (line_is_there x.script who (places.next who) (record { line = line; what = Segment seg call }) scenario at).1.0 in
    let count = m.are.count in
    let lt : seg.0 < length segs = omega (arith, there, count) in
    let sound = turns x scenario m.turns (start (length x.script.segments)) (world_of segs board places) m.led (start_sound x) in
    let log = λ (s : Seg). s.log in
    let is : slice_get (map log segs) seg.0 ≡ Some (seg_at segs seg.0).log = slice_get-map log segs seg.0 ∙ ap (option_map log) (slice_get-get_or segs seg.0 no_seg lt) in
    let front : take (places.next who) (lines_by x.script who) ≡ at.front = take_front (lines_by x.script who) at.front at.rest (record { line = line; what = Segment seg call }) (places.next who)
    at.lines at.place in
    record {
      newest = subst (λ (ls : List Line). All (λ (k : ℕ). k < length (asks ls)) (numbers_by who (seg_at segs seg.0).log)) front (sound.kept.ranks seg.0 (seg_at segs seg.0).log is who).1;
      state = asked_state (seg_at segs seg.0) who (length (asks at.front)) call p slip (λ n q e.
          let k = its_calls x segs board places m seg.0 who n q e in
          let theirs = take_front (lines_by x.script who) k.at.front k.at.rest (record { line = k.line; what = Segment k.seg q }) (places.next who) k.at.lines k.at.place in
          (k.number_is ∙ ap (λ (ls : List Line). length (asks ls)) (sym theirs ∙ front), one_call x.script who (places.next who) k.line line k.seg seg q call k.at at));
      dated = λ e. ap (λ (q : Site). q.shape.version) (m.are.each seg.0 lt).site ∙ line_is_dated x.script who (places.next who) line seg call scenario at e;
    }

-- ---- at first

-- a whole slip for the call that a client has come to
whole_slip : (x : Course) (segs : List Seg) (i who line : ℕ) (seg : SegId) (call : Asked) (p : Paper) → IsScenario x.script → AreSegmentsOf x segs
    → IsLineAt x.script who i (record { line = line; what = Segment seg call }) → open_in (seg_at segs seg.0) who ≡ None → IsWholeSlip x.script who i p
    → IsSlipFor (seg_at segs seg.0) who call p
whole_slip x segs i who line seg call p scenario are at none whole =
    let there = (line_is_there x.script who i (record { line = line; what = Segment seg call }) scenario at).1.0 in
    let count = are.count in
    let lt : seg.0 < length segs = omega (arith, there, count) in
    fresh_slip (seg_at segs seg.0) who call p none (whole line seg call at ∙ ap (λ (q : Site). prepared q.shape call) (sym (are.each seg.0 lt).site))

pub first_has_slips : FirstHasSlips
first_has_slips x segs board places slips scenario first are whole = record {
  each = λ who line seg call at.
      let none : open_in (seg_at segs seg.0) who ≡ None = elim (cases_lt seg.0 (length segs)) [
        | inl lt ↦ new_open (seg_at segs seg.0) who (first.new seg.0 lt)
        | inr ge ↦ ap (λ (q : Seg). open_in q who) (get_or_past segs seg.0 no_seg ge)
      ] in
      whole_slip x segs 0 who line seg call (slips who) scenario are (at_as x.script who (places.next who) 0 (record { line = line; what = Segment seg call }) (first.next_is who) at) none (whole who);
}

-- ---- a turn with a segment

-- the slip of a call that goes on
went_on : (w : Setting) (t after : ℕ) (o : Outcome) (s u : Seg) (who number : ℕ) (call : Asked) (old new : Paper) → IsServed w (request_of who number call) t after (turned_by o) s u
    → IsAdvanced o (request_of who number call) after u old new → is_answered (turned_by o) ≡ false → IsSlipFor s who call old → IsSlipFor u who call new
went_on w t after outcome.Moved s u who number call old new served advanced goes slip = record {
  whole = λ e. (let wrong : None ≡ Some (number, call) = sym e ∙ advanced.0 in cc);
  begun = λ o e. advanced.1;
}
went_on w t after (outcome.Held h) s u who number call old new served advanced goes slip =
    subst (IsSlipFor u who call) (sym advanced) (kept_slip s u who call old served.site (served.comes.1 ∙ sym served.comes.0) slip)
went_on w t after (outcome.Answered position stamp) s u who number call old new served advanced goes slip = absurd (false≢true (sym goes))

-- an answered call's caller has nothing open there
answered_none : (w : Setting) (r : Request) (t after : ℕ) (o : Outcome) (s u : Seg) → IsServed w r t after (turned_by o) s u → is_answered (turned_by o) ≡ true → open_in u r.caller ≡ None
answered_none w r t after outcome.Moved s u served answered = absurd (false≢true answered)
answered_none w r t after (outcome.Held h) s u served answered = absurd (false≢true answered)
answered_none w r t after (outcome.Answered position stamp) s u served answered = served.comes.0

module _ (x : Course) (who : ℕ) (board : Board) (o : Outcome) (segs : List Seg) (old : Places) (later : List Seg) (new : Places) (h : HasServed x who board o segs old later new)
    (scenario : IsScenario x.script) (m : IsMoment x segs board old) where
  turned : IsServed (setting x (world_of segs board old) h.seg.0) (request_of who h.number h.call) (old.clock who) (new.clock who) (turned_by o) (seg_at segs h.seg.0) h.now
  turned = event_is_turn (setting x (world_of segs board old) h.seg.0) (request_of who h.number h.call) (old.clock who) (new.clock who) o (seg_at segs h.seg.0) h.now
      (happened x who board o segs old later new m.are h) (λ y. refl)

  at_here : seg_at later h.seg.0 ≡ h.now
  at_here = here x who board o segs old later new m.are h

  at_others : (i : ℕ) → i ≢ h.seg.0 → seg_at later i ≡ seg_at segs i
  at_others = elsewhere x who board o segs old later new m.are h

  -- another client's slip stays
  other_slip : (c i : ℕ) (call : Asked) (p : Paper) → c ≢ who → IsSlipFor (seg_at segs i) c call p → IsSlipFor (seg_at later i) c call p
  other_slip c i call p other slip = elim (cases_eq i h.seg.0) [
    | inl same ↦
        let was : IsSlipFor (seg_at segs h.seg.0) c call p = subst (λ (n : ℕ). IsSlipFor (seg_at segs n) c call p) same slip in
        subst (λ (n : ℕ). IsSlipFor (seg_at later n) c call p) (sym same)
        (subst (λ (q : Seg). IsSlipFor q c call p) (sym at_here) (kept_slip (seg_at segs h.seg.0) h.now c call p turned.site (turned.others c other) was))
    | inr diff ↦ subst (λ (q : Seg). IsSlipFor q c call p) (sym (at_others i diff)) slip
  ]

  -- after an answer nothing is open
  none_after : is_answered (turned_by o) ≡ true → (i : ℕ) → open_in (seg_at later i) who ≡ None
  none_after answered i = elim (cases_eq i h.seg.0) [
    | inl same ↦
        ap (λ (n : ℕ). open_in (seg_at later n) who) same ∙ ap (λ (q : Seg). open_in q who) at_here
        ∙ answered_none (setting x (world_of segs board old) h.seg.0) (request_of who h.number h.call) (old.clock who) (new.clock who) o (seg_at segs h.seg.0) h.now turned answered
    | inr diff ↦
        ap (λ (q : Seg). open_in q who) (at_others i diff) ∙ open_none (open_in (seg_at segs i) who) (λ n call e.
        let k = its_calls x segs board old m i who n call e in
        diff (sym k.segment_is ∙ one_segment x.script who (old.next who) k.line h.line k.seg h.seg call h.call k.at h.at))
  ]

  module _ (slips after : ℕ → Paper) (are : AreSlips x segs old slips) (go : SlipsGoOn x who board o segs old later new h slips after) where
    -- the client's own slip
    own_slip : (b : Bool) → is_answered (turned_by o) ≡ b → (line : ℕ) (seg : SegId) (call : Asked) → IsLineAt x.script who (new.next who) (record { line = line; what = Segment seg call })
        → IsSlipFor (seg_at later seg.0) who call (after who)
    own_slip true answered line seg call at =
        whole_slip x later (new.next who) who line seg call (after who) scenario (serving_keeps x who board o segs old later new m.are h) at (none_after answered seg.0) (go.next answered)
    own_slip false answered line seg call at =
        let stays : new.next who ≡ old.next who = h.moves ∙ ap (line_after (old.next who)) answered in
        let at_old = at_as x.script who (new.next who) (old.next who) (record { line = line; what = Segment seg call }) stays at in
        let segment : seg.0 ≡ h.seg.0 = one_segment x.script who (old.next who) line h.line seg h.seg call h.call at_old h.at in
        let same : call ≡ h.call = one_call x.script who (old.next who) line h.line seg h.seg call h.call at_old h.at in
        let was : IsSlipFor (seg_at segs h.seg.0) who h.call h.slip = subst (IsSlipFor (seg_at segs h.seg.0) who h.call) go.own (are.each who h.line h.seg h.call h.at) in
        let now : IsSlipFor h.now who h.call h.slip_after =
        went_on (setting x (world_of segs board old) h.seg.0) (old.clock who) (new.clock who) o (seg_at segs h.seg.0) h.now who h.number h.call h.slip h.slip_after turned h.advanced answered was in
        let there : IsSlipFor (seg_at later h.seg.0) who h.call (after who) =
        subst (IsSlipFor (seg_at later h.seg.0) who h.call) (sym (go.goes_on answered)) (subst (λ (q : Seg). IsSlipFor q who h.call h.slip_after) (sym at_here) now) in
        subst (λ (n : ℕ). IsSlipFor (seg_at later n) who call (after who)) (sym segment) (subst (λ (c : Asked). IsSlipFor (seg_at later h.seg.0) who c (after who)) (sym same) there)

    all_slips : AreSlips x later new after
    all_slips = record {
      each = λ c line seg call at. elim (cases_eq c who) [
        | inl same ↦
            let at_own = subst (λ (n : ℕ). IsLineAt x.script n (new.next n) (record { line = line; what = Segment seg call })) same at in
            subst (λ (n : ℕ). IsSlipFor (seg_at later seg.0) n call (after n)) (sym same) (own_slip (is_answered (turned_by o)) refl line seg call at_own)
        | inr diff ↦
            let at_old = at_as x.script c (new.next c) (old.next c) (record { line = line; what = Segment seg call }) (h.others c diff).0 at in
            subst (IsSlipFor (seg_at later seg.0) c call) (sym (go.others c diff)) (other_slip c seg.0 call (slips c) diff (are.each c line seg call at_old))
      ];
    }

pub serving_keeps_slips : ServingKeepsSlips
serving_keeps_slips x who board o segs old later new h slips after scenario m are go = all_slips x who board o segs old later new h scenario m slips after are go

-- ---- a node that fails

pub failing_keeps_slips : FailingKeepsSlips
failing_keeps_slips x who segs board kills killed old new slips after scenario m h are whole others = record {
  each = λ c line seg call at. elim (cases_eq c who) [
    | inl same ↦
        let none : open_in (seg_at segs seg.0) who ≡ None = open_none (open_in (seg_at segs seg.0) who) (λ n q e.
        let k = its_calls x segs board old m seg.0 who n q e in
        no_call x.script who (old.next who) h.kill.line k.line h.node k.seg q h.at k.at) in
        let at_own = subst (λ (n : ℕ). IsLineAt x.script n (new.next n) (record { line = line; what = Segment seg call })) same at in
        subst (λ (n : ℕ). IsSlipFor (seg_at segs seg.0) n call (after n)) (sym same) (whole_slip x segs (new.next who) who line seg call (after who) scenario m.are at_own none whole)
    | inr diff ↦
        let at_old = at_as x.script c (new.next c) (old.next c) (record { line = line; what = Segment seg call }) (h.others c diff).0 at in
        subst (IsSlipFor (seg_at segs seg.0) c call) (sym (others c diff)) (are.each c line seg call at_old)
  ];
}
