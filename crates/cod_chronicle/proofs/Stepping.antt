-- What an event's entries are.
use Rattle.std.proofs.Common.{◌≡◌, ◌≢◌, ℕ, ◌<◌, ◌≤◌, Bool, true, false, cond, None, List, [], ◌∷◌, ◌++◌, refl, sym, ap, ◌∙◌, subst, inl, inr, arith}
use Rattle.std.specs.List.{AllByRecursion}
use Rattle.std.specs.Prelude.{IsSome, Some, is_some}
use Rattle.std.proofs.lemmas.Bool.{cases_lt, ne_eqb, false≢true}
use Rattle.std.proofs.lemmas.List.Elements.{filter-append}
use Rattle.std.proofs.lemmas.List.{append-nil, append_assoc}
use Rattle.cod_chronicle.proofs.Growth.{is_down-push, node_of-push}
use Rattle.cod_chronicle.specs.declared.entry.Entry.{Entry}
use Rattle.cod_chronicle.specs.declared.entry.Entry.TheVariants.{Call, Down, Up, Move}
use Rattle.cod_chronicle.specs.declared.entry.Cause.TheVariants.{Killed, Fault}
use Rattle.cod_chronicle.specs.Said.{stamp_of, clock_of, last_stamp, Precedes, is_call_by, calls_by}
use Rattle.cod_chronicle.specs.Legal.{IsLegal}
use Rattle.cod_chronicle.specs.Event.{NodeKill, Kills, clock_at, raised, Stamped, Request, Setting, IsSwept, Tells}
use Rattle.cod_chronicle.specs.Step.{IsMarkEntry, EndsWithCall, AnsweredEndsWithCall, IsAfterKill, MarksStandAfter, UnansweredAreMarks, EventsRise, StepLeadsOn}
use Rattle.cod_chronicle.specs.Step.{LeavesOthersCalls}
use Rattle.cod_chronicle.specs.Standing.{IsNoCallBut}
use Rattle.cod_chronicle.proofs.Adding.{keeps_legal}

module _ (w : Setting) (r : Request) where
  one_mark_more : (e : Entry) (h es : List Entry) (after : ℕ) → IsMarkEntry e → EndsWithCall w r (h ++ e ∷ []) es after → EndsWithCall w r h (e ∷ es) after
  one_mark_more e h es after m x =
      let are = x.are in
      record {
        marks = e ∷ x.marks;
        caller = x.caller;
        reply = x.reply;
        are = ap (λ (l : List Entry). e ∷ l) are;
        only_marks = (m, x.only_marks);
        caller_is = x.caller_is;
        seen = x.seen;
        out = subst (IsSwept w.known w.site) (append_assoc h (e ∷ []) x.marks) x.out;
      }

  ends : (s t : ℕ) (es h : List Entry) (after : ℕ) → Tells w r es true → Stamped w.seen s t es after → IsSwept w.known w.site (h ++ es)
      → EndsWithCall w r h es after
  ends s t [] h after tells stamped swept = absurd (false≢true (sym tells))
  ends s t ((Call caller number stamp call reply) ∷ es) h after tells stamped swept =
      let none : es ≡ [] = tells.4 in
      let last : after ≡ stamp = subst (λ (l : List Entry). Stamped w.seen stamp stamp l after) none stamped.1 in
      let n = tells.1 in
      let k = tells.2 in
      let c : Entry = Call caller number stamp call reply in
      let e : c ≡ (Call caller r.number after r.call reply) = cc (n, k, last) in
      let now : IsSwept w.known w.site (h ++ c ∷ []) = subst (λ (l : List Entry). IsSwept w.known w.site (h ++ c ∷ l)) none swept in
      record {
        marks = [];
        caller = caller;
        reply = reply;
        are = ap (λ (l : List Entry). c ∷ l) none ∙ ap (λ (e : Entry). e ∷ []) e;
        only_marks = tt;
        caller_is = tells.0;
        seen = tells.3;
        out = subst (IsSwept w.known w.site) (sym (append-nil h)) (λ i lt some. sym (is_down-push h c i) ∙ now i lt (let n = node_of-push w.site h c i in
            subst (λ (y : ℕ). IsSome (w.known y)) (sym n) some));
      }
  ends s t ((Down stamp col node cause) ∷ es) h after tells stamped swept =
      let e : Entry = Down stamp col node cause in
      one_mark_more e h es after tt (ends stamp stamp es (h ++ e ∷ []) after tells.1 stamped.1 (subst (IsSwept w.known w.site) (sym (append_assoc h (e ∷ []) es)) swept))
  ends s t ((Up stamp col node) ∷ es) h after tells stamped swept =
      let e : Entry = Up stamp col node in
      one_mark_more e h es after tt (ends stamp stamp es (h ++ e ∷ []) after tells stamped.1 (subst (IsSwept w.known w.site) (sym (append_assoc h (e ∷ []) es)) swept))
  ends s t ((Move stamp col node) ∷ es) h after tells stamped swept =
      let e : Entry = Move stamp col node in
      one_mark_more e h es after tt (ends stamp stamp es (h ++ e ∷ []) after tells stamped.1 (subst (IsSwept w.known w.site) (sym (append_assoc h (e ∷ []) es)) swept))

  after_kills : (s t : ℕ) (es : List Entry) (after : ℕ) (answered : Bool) → ((x : ℕ) (k : NodeKill) → w.seen x ≡ Some k → k.clock < last_stamp)
      → Tells w r es answered → Stamped w.seen s t es after → AllByRecursion (IsAfterKill w.seen) es
  after_kills s t [] after answered small tells stamped = tt
  after_kills s t ((Call caller number stamp call reply) ∷ es) after answered small tells stamped =
      let none = tells.4 in (tt, subst (AllByRecursion (IsAfterKill w.seen)) (sym none) tt)
  after_kills s t ((Down stamp col node (Killed line)) ∷ es) after answered small tells stamped =
      let k = tells.0 in
      let c : clock_at (w.seen node.0) ≡ k.0.clock = ap clock_at k.1 in
      let is = stamped.0 in
      let lt = small node.0 k.0 k.1 in
      ((k.0, k.1, k.2, omega (arith, c, is, lt)), after_kills stamp stamp es after answered small tells.1 stamped.1)
  after_kills s t ((Down stamp col node (Fault count)) ∷ es) after answered small tells stamped = (tt, after_kills stamp stamp es after answered small tells.1 stamped.1)
  after_kills s t ((Up stamp col node) ∷ es) after answered small tells stamped = (tt, after_kills stamp stamp es after answered small tells stamped.1)
  after_kills s t ((Move stamp col node) ∷ es) after answered small tells stamped = (tt, after_kills stamp stamp es after answered small tells stamped.1)

  marks_only : (es : List Entry) → Tells w r es false → AllByRecursion IsMarkEntry es
  marks_only [] tells = tt
  marks_only ((Call caller number stamp call reply) ∷ es) tells = absurd (false≢true tells.5)
  marks_only ((Down stamp col node cause) ∷ es) tells = (tt, marks_only es tells.1)
  marks_only ((Up stamp col node) ∷ es) tells = (tt, marks_only es tells)
  marks_only ((Move stamp col node) ∷ es) tells = (tt, marks_only es tells)

  own_calls : (es : List Entry) (answered : Bool) → Tells w r es answered → AllByRecursion (IsNoCallBut r.caller) es
  own_calls [] answered tells = tt
  own_calls ((Call caller number stamp call reply) ∷ es) answered tells =
      let none = tells.4 in
      (tells.0, subst (AllByRecursion (IsNoCallBut r.caller)) (sym none) tt)
  own_calls ((Down stamp col node cause) ∷ es) answered tells = (tt, own_calls es answered tells.1)
  own_calls ((Up stamp col node) ∷ es) answered tells = (tt, own_calls es answered tells)
  own_calls ((Move stamp col node) ∷ es) answered tells = (tt, own_calls es answered tells)

raised_up : (kills : Kills) (t : ℕ) (e : Entry) → t ≤ raised kills t e
raised_up kills t (Call caller number stamp call reply) = omega arith
raised_up kills t (Down stamp col node (Killed line)) = omega arith
raised_up kills t (Down stamp col node (Fault count)) = omega arith
raised_up kills t (Up stamp col node) = omega arith
raised_up kills t (Move stamp col node) = omega arith

-- the clock after some entries, where there are any
up : (kills : Kills) (s t : ℕ) (es : List Entry) (after : ℕ) → t ≤ last_stamp → Stamped kills s t es after → (t ≤ after) × (after ≤ last_stamp)
up kills s t [] after le stamped = (omega (arith, stamped), omega (arith, stamped, le))
up kills s t (e ∷ es) after le stamped =
    let is = stamped.0 in
    let a = raised_up kills t e in
    let r = up kills (stamp_of e) (stamp_of e) es after (omega (arith, is)) stamped.1 in
    (omega (arith, is, a, r.0, le), r.1)

up_more : (kills : Kills) (s t : ℕ) (e : Entry) (es : List Entry) (after : ℕ) → t ≤ last_stamp → Stamped kills s t (e ∷ es) after → Precedes t after
up_more kills s t e es after le stamped =
    let is = stamped.0 in
    let a = raised_up kills t e in
    let r = up kills (stamp_of e) (stamp_of e) es after (omega (arith, is)) stamped.1 in
    elim (cases_lt t last_stamp) [
      | inl lt ↦ inl (let b = r.0 in omega (arith, is, a, b, lt))
      | inr ge ↦ inr (omega (arith, le, ge), (let b = r.0 in let c = r.1 in omega (arith, is, a, b, c, ge)))
    ]

pub answered_ends_with_call : AnsweredEndsWithCall
answered_ends_with_call w r h t entries after e = ends w r (clock_of h) t entries h after e.adds.tells e.adds.stamped e.swept

pub marks_stand_after : MarksStandAfter
marks_stand_after w r h t entries after answered small e = after_kills w r (clock_of h) t entries after answered small e.adds.tells e.adds.stamped

pub unanswered_are_marks : UnansweredAreMarks
unanswered_are_marks w r h t entries after e = marks_only w r entries e.adds.tells

pub events_rise : EventsRise
events_rise w r h t entries after answered le e = record {
  never_falls = (up w.seen (clock_of h) t entries after le e.adds.stamped).0;
  answer_rises = λ q. by entries e.adds.tells e.adds.stamped q;
} where
  by : (es : List Entry) → Tells w r es answered → Stamped w.seen (clock_of h) t es after → answered ≡ true → Precedes t after
  by [] tells stamped q = absurd (false≢true (sym tells ∙ q))
  by (e ∷ es) tells stamped q = up_more w.seen (clock_of h) t e es after le stamped

pub step_leads_on : StepLeadsOn
step_leads_on site may who old new s =
    let g = s.grown in
    let w : Setting = record { site = site; known = s.known; seen = s.seen; may = may } in
    let r : Request = record { caller = who; number = s.number; call = s.call } in
    record {
      added = s.entries;
      grown = g;
      calls = own_calls w r s.entries s.answered s.event.adds.tells;
      legal = λ l. subst (IsLegal site) (sym g) (keeps_legal w r old s.entries s.clock s.after s.answered l s.event.adds);
    }

-- an entry that is no other's call is none of this other's
not_by : (who other : ℕ) → other ≢ who → (e : Entry) → IsNoCallBut who e → is_call_by other e ≡ false
not_by who other apart (Call caller number stamp call reply) own =
    ap (λ (b : Bool). is_some (cond b (Some number) None)) (ne_eqb caller.0 other (λ same. apart (sym same ∙ own)))
not_by who other apart (Down stamp col node cause) own = refl
not_by who other apart (Up stamp col node) own = refl
not_by who other apart (Move stamp col node) own = refl

none_by : (who other : ℕ) → other ≢ who → (added : List Entry) → AllByRecursion (IsNoCallBut who) added → calls_by other added ≡ []
none_by who other apart [] own = refl
none_by who other apart (e ∷ es) own =
    ap (λ (b : Bool). cond b (e ∷ calls_by other es) (calls_by other es)) (not_by who other apart e own.0) ∙ none_by who other apart es own.1

pub leaves_others_calls : LeavesOthersCalls
leaves_others_calls who other h added apart own =
    filter-append (is_call_by other) h added ∙ ap (λ (l : List Entry). calls_by other h ++ l) (none_by who other apart added own)
    ∙ append-nil (calls_by other h)
