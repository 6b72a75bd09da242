-- What one event adds.
use Rattle.std.proofs.Common.{◌≡◌, ℕ, ◌<◌, ◌≤◌, Bool, true, false, cond, eqb, List, [], ◌∷◌, ◌++◌, refl, sym, ap, ◌∙◌, subst, inl, inr, arith}
use Rattle.std.specs.Prelude.{IsSome, is_some}
use Rattle.std.specs.List.{All}
use Rattle.std.proofs.lemmas.Bool.{cases_lt, cases_eq, eq-eqb, ne_eqb}
use Rattle.std.proofs.lemmas.List.{append-nil, append_assoc}
use Rattle.cod_chronicle.specs.declared.entry.Entry.{Entry}
use Rattle.cod_chronicle.specs.declared.entry.Entry.TheVariants.{Call, Down, Up, Move}
use Rattle.cod_chronicle.specs.Said.{stamp_of, clock_of, last_stamp, next_stamp, Precedes, StampFollows, NumberFollows, IsChronicle, numbers_by, is_down}
use Rattle.cod_chronicle.specs.Said.{down_next, node_of, node_next}
use Rattle.cod_chronicle.specs.Legal.{LegalAfter}
use Rattle.cod_chronicle.proofs.Growth.{clock_of-push, numbers_by-push, is_down-push, node_of-push, stamp_follows, chronicle-push}
use Rattle.cod_chronicle.proofs.Legality.{legal-append}
use Rattle.cod_chronicle.specs.Event.{Kills, raised, Stamped, Request, Setting, Tells, Adds}
use Rattle.cod_chronicle.specs.Adding.{FollowsNext, NextIsAfter, AddsNothing, AddsMark, AddsCall, AddsArrival, IsArriving, KeepsChronicle, KeepsLegal, StaysOff}
use Rattle.cod_chronicle.specs.Adding.{KeepsSwept}

next_follows : (s t : ℕ) → s ≤ last_stamp → Precedes s (next_stamp s t)
next_follows s t le = elim (cases_lt s last_stamp) [
  | inl lt ↦ inl (omega arith)
  | inr ge ↦ inr (omega arith, omega arith)
]

pub follows_next : FollowsNext
follows_next h t le = stamp_follows h (next_stamp (clock_of h) t) (next_follows (clock_of h) t le)

pub next_is_after : NextIsAfter
next_is_after s t = record { both = λ a b. (omega arith, omega arith); range = omega arith }

pub adds_nothing : AddsNothing
adds_nothing w r h t = record { tells = refl; stamped = refl; legal = tt }

-- what is told by marks may go on
tells_more : (w : Setting) (r : Request) (es more : List Entry) (answered : Bool) → Tells w r es false → Tells w r more answered
    → Tells w r (es ++ more) answered
tells_more w r [] more answered a b = b
tells_more w r ((Call caller number stamp call reply) ∷ es) more answered a b = (let f = a.5 in absurd (cc))
tells_more w r ((Down stamp col node cause) ∷ es) more answered a b = (a.0, tells_more w r es more answered a.1 b)
tells_more w r ((Up stamp col node) ∷ es) more answered a b = tells_more w r es more answered a b
tells_more w r ((Move stamp col node) ∷ es) more answered a b = tells_more w r es more answered a b

-- the segment's clock and the caller's, behind some entries
stamped_more : (kills : Kills) (h : List Entry) (t u v : ℕ) (es more : List Entry) → Stamped kills (clock_of h) t es u
    → Stamped kills (clock_of (h ++ es)) u more v → Stamped kills (clock_of h) t (es ++ more) v
stamped_more kills h t u v [] more a b =
    let n = append-nil h in
    let c : Stamped kills (clock_of h) u more v = subst (λ (k : List Entry). Stamped kills (clock_of k) u more v) n b in
    subst (λ (t : ℕ). Stamped kills (clock_of h) t more v) a c
stamped_more kills h t u v (e ∷ es) more a b =
    let c = clock_of-push h e in
    let s : Stamped kills (clock_of (h ++ e ∷ [])) (stamp_of e) es u = subst (λ (s : ℕ). Stamped kills s (stamp_of e) es u) (sym c) a.1 in
    let m : Stamped kills (clock_of ((h ++ e ∷ []) ++ es)) u more v = subst (λ (k : List Entry). Stamped kills (clock_of k) u more v) (sym (append_assoc h (e ∷ []) es)) b in
    let r : Stamped kills (clock_of (h ++ e ∷ [])) (stamp_of e) (es ++ more) v = stamped_more kills (h ++ e ∷ []) (stamp_of e) u v es more s m in
    (a.0, subst (λ (s : ℕ). Stamped kills s (stamp_of e) (es ++ more) v) c r)

-- two parts, one after another
pub adds_more : (w : Setting) (r : Request) (h es more : List Entry) (t u v : ℕ) (answered : Bool) → Adds w r h t es u false
    → Tells w r more answered → Stamped w.seen (clock_of (h ++ es)) u more v → LegalAfter w.site (h ++ es) more → Adds w r h t (es ++ more) v answered
adds_more w r h es more t u v answered a tells stamped legal = record {
  tells = tells_more w r es more answered a.tells tells;
  stamped = stamped_more w.seen h t u v es more a.stamped stamped;
  legal = legal-append w.site h es more a.legal legal;
}

pub adds_mark : AddsMark
adds_mark w r h es t u stamp col node cause a c d s = adds_more w r h es ((Down stamp col node cause) ∷ []) t u stamp false a (c, refl) (s, refl) (d, tt)

pub adds_call : AddsCall
adds_call w r h es t u stamp caller reply a c i d s =
    adds_more w r h es ((Call caller r.number stamp r.call reply) ∷ []) t u stamp true a (c, refl, refl, i, refl, refl) (s, refl) (d, tt)

arrival_tells : (w : Setting) (r : Request) (arrival : Entry) (more : List Entry) → IsArriving arrival → Tells w r more true → Tells w r (arrival ∷ more) true
arrival_tells w r (Call caller number stamp call reply) more i t = absurd i
arrival_tells w r (Down stamp col node cause) more i t = absurd i
arrival_tells w r (Up stamp col node) more i t = t
arrival_tells w r (Move stamp col node) more i t = t

arrival_raised : (kills : Kills) (t : ℕ) (arrival : Entry) → IsArriving arrival → raised kills t arrival ≡ t
arrival_raised kills t (Call caller number stamp call reply) i = absurd i
arrival_raised kills t (Down stamp col node cause) i = absurd i
arrival_raised kills t (Up stamp col node) i = refl
arrival_raised kills t (Move stamp col node) i = refl

pub adds_arrival : AddsArrival
adds_arrival w r h es t u arrival caller stamp reply a i c seen fits answer first second =
    let call : Entry = Call caller r.number stamp r.call reply in
    adds_more w r h es (arrival ∷ call ∷ []) t u stamp true a
    (arrival_tells w r arrival (call ∷ []) i (c, refl, refl, seen, refl, refl))
    (first ∙ sym (ap (next_stamp (clock_of (h ++ es))) (arrival_raised w.seen u arrival i)), (second, refl))
    (fits, (answer, tt))

mark_then : (w : Setting) (r : Request) (h es : List Entry) (e : Entry) → numbers_by r.caller (h ++ e ∷ []) ≡ numbers_by r.caller h ++ [] → NumberFollows h e
    → IsChronicle h → clock_of h ≤ last_stamp
    → (t u : ℕ) → All (λ m. m < r.number) (numbers_by r.caller h) → Stamped w.seen (clock_of h) t (e ∷ es) u
    → ((k : List Entry) (t : ℕ) → IsChronicle k → clock_of k ≤ last_stamp → All (λ m. m < r.number) (numbers_by r.caller k)
    → Stamped w.seen (clock_of k) t es u → IsChronicle (k ++ es))
    → IsChronicle (h ++ e ∷ es)
mark_then w r h es e none n c le t u below stamped go =
    let k : List Entry = h ++ e ∷ [] in
    let at : clock_of k ≡ stamp_of e = clock_of-push h e in
    let is = stamped.0 in
    let f : StampFollows h (stamp_of e) = subst (StampFollows h) (sym is) (follows_next h (raised w.seen t e) le) in
    let one : IsChronicle k = chronicle-push h e c f n in
    let few : All (λ m. m < r.number) (numbers_by r.caller k) = subst (All (λ m. m < r.number)) (sym (none ∙ append-nil (numbers_by r.caller h))) below in
    let range : clock_of k ≤ last_stamp = (let a : clock_of k ≡ next_stamp (clock_of h) (raised w.seen t e) = at ∙ is in omega arith) in
    let all = go k (stamp_of e) one range few (subst (λ (s : ℕ). Stamped w.seen s (stamp_of e) es u) (sym at) stamped.1) in
    subst IsChronicle (append_assoc h (e ∷ []) es) all

-- only the call has a number, and it is the caller's next
numbered : (w : Setting) (r : Request) (es h : List Entry) (t u : ℕ) (answered : Bool) → IsChronicle h → clock_of h ≤ last_stamp
    → All (λ m. m < r.number) (numbers_by r.caller h) → Tells w r es answered → Stamped w.seen (clock_of h) t es u → IsChronicle (h ++ es)
numbered w r [] h t u answered c le below tells stamped = (let n = append-nil h in subst IsChronicle (sym n) c)
numbered w r ((Call caller number stamp call reply) ∷ es) h t u answered c le below tells stamped =
    let e : Entry = Call caller number stamp call reply in
    let is = stamped.0 in
    let f : StampFollows h stamp = subst (StampFollows h) (sym is) (follows_next h t le) in
    let a : All (λ m. m < number) (numbers_by r.caller h) = (let q = tells.1 in subst (λ (n : ℕ). All (λ m. m < n) (numbers_by r.caller h)) (sym q) below) in
    let n : NumberFollows h e = (let q = tells.0 in subst (λ (who : ℕ). All (λ m. m < number) (numbers_by who h)) (sym q) a) in
    let none : es ≡ [] = tells.4 in
    subst (λ (l : List Entry). IsChronicle (h ++ e ∷ l)) (sym none) (chronicle-push h e c f n)
numbered w r ((Down stamp col node cause) ∷ es) h t u answered c le below tells stamped =
    mark_then w r h es (Down stamp col node cause) (numbers_by-push r.caller h (Down stamp col node cause)) tt c le t u below stamped (λ k t c le b s. numbered w r es k t u answered c le b tells.1 s)
numbered w r ((Up stamp col node) ∷ es) h t u answered c le below tells stamped =
    mark_then w r h es (Up stamp col node) (numbers_by-push r.caller h (Up stamp col node)) tt c le t u below stamped (λ k t c le b s. numbered w r es k t u answered c le b tells s)
numbered w r ((Move stamp col node) ∷ es) h t u answered c le below tells stamped =
    mark_then w r h es (Move stamp col node) (numbers_by-push r.caller h (Move stamp col node)) tt c le t u below stamped (λ k t c le b s. numbered w r es k t u answered c le b tells s)

pub keeps_chronicle : KeepsChronicle
keeps_chronicle w r h es t u answered c le below a = numbered w r es h t u answered c le below a.tells a.stamped

pub keeps_legal : KeepsLegal
keeps_legal w r h es t u answered l a = legal-append w.site [] h es l a.legal

-- a node that was killed, and a column on it, after one more entry
pub swept_step : (kills : Kills) (i d : ℕ) (x : ℕ) (down : Bool) (e : Entry) → StaysOff kills e → (IsSome (kills x) → down ≡ true)
    → IsSome (kills (node_next i x e)) → down_next i down e ≡ true
swept_step kills i d x down (Call caller number stamp call reply) off was some = was some
swept_step kills i d x down (Down stamp col node cause) off was some = elim (cases_eq col i) [
  | inl same ↦ ap (λ (b : Bool). cond b true down) (eq-eqb col i same)
  | inr other ↦ ap (λ (b : Bool). cond b true down) (ne_eqb col i other) ∙ was some
]
swept_step kills i d x down (Up stamp col node) off was some = elim (cases_eq col i) [
  | inl same ↦ absurd (let e : cond (eqb col i) node.0 x ≡ node.0 = ap (λ (b : Bool). cond b node.0 x) (eq-eqb col i same) in
      let k : is_some (kills node.0) ≡ true = subst (λ (y : ℕ). IsSome (kills y)) e some in
      let n : is_some (kills node.0) ≡ false = ap is_some off in cc)
  | inr other ↦
      let e : cond (eqb col i) node.0 x ≡ x = ap (λ (b : Bool). cond b node.0 x) (ne_eqb col i other) in
      ap (λ (b : Bool). cond b false down) (ne_eqb col i other) ∙ was (subst (λ (y : ℕ). IsSome (kills y)) e some)
]
swept_step kills i d x down (Move stamp col node) off was some = elim (cases_eq col i) [
  | inl same ↦ absurd (let e : cond (eqb col i) node.0 x ≡ node.0 = ap (λ (b : Bool). cond b node.0 x) (eq-eqb col i same) in
      let k : is_some (kills node.0) ≡ true = subst (λ (y : ℕ). IsSome (kills y)) e some in
      let n : is_some (kills node.0) ≡ false = ap is_some off in cc)
  | inr other ↦
      let e : cond (eqb col i) node.0 x ≡ x = ap (λ (b : Bool). cond b node.0 x) (ne_eqb col i other) in
      was (subst (λ (y : ℕ). IsSome (kills y)) e some)
]

pub keeps_swept : KeepsSwept
keeps_swept kills site h e swept off i lt some =
    let n = node_of-push site h e i in
    is_down-push h e i ∙ swept_step kills i 0 (node_of site h i) (is_down h i) e off (swept i lt) (subst (λ (y : ℕ). IsSome (kills y)) n some)
