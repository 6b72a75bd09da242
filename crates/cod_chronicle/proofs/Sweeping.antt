-- An event in time.
use Rattle.std.proofs.Common.{◌≡◌, ℕ, zero, suc, ◌+◌, ◌<◌, ◌≤◌, Bool, true, false, cond, Some, None, List, [], ◌∷◌, ◌++◌, refl, sym, ap, ◌∙◌, subst, inl, inr}
use Rattle.std.proofs.Common.{arith}
use Rattle.std.specs.Prelude.{IsSome, is_some}
use Rattle.std.specs.List.{range_with_len, AllByRecursion}
use Rattle.std.proofs.lemmas.Bool.{cases_eq, eq-eqb, false≢true}
use Rattle.std.proofs.lemmas.List.{append-nil, append_assoc}
use Rattle.cod_types.specs.declared.call.NodeId.{NodeId}
use Rattle.cod_chronicle.specs.declared.entry.Entry.{Entry}
use Rattle.cod_chronicle.specs.declared.entry.Entry.TheVariants.{Call, Down, Up, Move}
use Rattle.cod_chronicle.specs.declared.entry.Cause.TheVariants.{Killed, Fault}
use Rattle.cod_chronicle.specs.Said.{Site, clock_of, next_stamp, is_down, node_of}
use Rattle.cod_chronicle.specs.Legal.{LegalAfter}
use Rattle.cod_chronicle.proofs.Growth.{clock_of-push, is_down-push, node_of-push}
use Rattle.cod_chronicle.specs.Event.{Kills, NodeKill, raised, Stamped, Request, Setting, IsSwept, Tells, Adds, Event}
use Rattle.cod_chronicle.specs.Adding.{StaysOff}
use Rattle.cod_chronicle.specs.Sweep.{IsPassed, IsCaught, Sweeps, TellsThen, ProceedsIsEvent, SweepsOneWay}
use Rattle.cod_chronicle.proofs.Adding.{adds_more, keeps_swept, swept_step}

-- a column on a node known as killed is down
abbrev IsOutAt : Kills → Site → List Entry → ℕ → Type 0
IsOutAt kills site h i = IsSome (kills (node_of site h i)) → is_down h i ≡ true

out_step : (kills : Kills) (site : Site) (h : List Entry) (e : Entry) (i : ℕ) → StaysOff kills e → IsOutAt kills site h i → IsOutAt kills site (h ++ e ∷ []) i
out_step kills site h e i off was some =
    let n = node_of-push site h e i in
    is_down-push h e i ∙ swept_step kills i 0 (node_of site h i) (is_down h i) e off was (subst (λ (y : ℕ). IsSome (kills y)) n some)

out_passed : (w : Setting) (h : List Entry) (i : ℕ) → IsPassed w h i → IsOutAt w.known w.site h i
out_passed w h i (inl down) some = down
out_passed w h i (inr none) some = absurd (false≢true (sym (ap is_some none) ∙ some))

module _ (w : Setting) (r : Request) where
  record Swept (h : List Entry) (t : ℕ) (es : List Entry) (after a : ℕ) : Type 0 where
    tells : Tells w r es false
    stamped : Stamped w.seen (clock_of h) t es after
    legal : LegalAfter w.site h es
    out : (j : ℕ) → j < a → IsOutAt w.known w.site (h ++ es) j

  swept_by : (m a : ℕ) (h : List Entry) (t : ℕ) (es : List Entry) (after : ℕ) → a + m ≤ w.site.shape.n → ((j : ℕ) → j < a → IsOutAt w.known w.site h j)
      → Sweeps w h t (range_with_len a m) es after → Swept h t es after (a + m)
  swept_by zero a h t es after within out s =
      subst (λ (l : List Entry). Swept h t l after (a + 0)) (sym s.0) (record {
        tells = refl;
        stamped = s.1;
        legal = tt;
        out = λ j l. subst (λ (k : List Entry). IsOutAt w.known w.site k j) (sym (append-nil h)) (out j (omega (arith, l)));
      })
  swept_by (suc m) a h t es after within out (inl s) =
      let z : a + 1 + m ≡ a + suc m = omega arith in
      subst (Swept h t es after) z
      (swept_by m (a + 1) h t es after (omega (arith, within))
      (λ j l. elim (cases_eq j a) [
        | inl same ↦ subst (IsOutAt w.known w.site h) (sym same) (out_passed w h a s.0)
        | inr diff ↦ out j (omega (arith, l, diff))
      ]) s.1)
  swept_by (suc m) a h t es after within out (inr s) =
      let stamp = s.0 in
      let line = s.1 in
      let node = s.2 in
      let more = s.3 in
      let c = s.4 in
      let e : Entry = Down stamp a node (Killed line) in
      let z : a + 1 + m ≡ a + suc m = omega arith in
      let r = swept_by m (a + 1) (h ++ e ∷ []) stamp more after (omega (arith, within))
      (λ j l. elim (cases_eq j a) [
        | inl same ↦ (λ some. is_down-push h e j ∙ ap (λ (b : Bool). cond b true (is_down h j)) (eq-eqb a j (sym same)))
        | inr diff ↦ out_step w.known w.site h e j tt (out j (omega (arith, l, diff)))
      ]) s.6 in
      let k : clock_of (h ++ e ∷ []) ≡ stamp = clock_of-push h e in
      subst (λ (l : List Entry). Swept h t l after (a + suc m)) (sym s.5) (record {
        tells = (c.seen, r.tells);
        stamped = (c.stamp_is, subst (λ (s : ℕ). Stamped w.seen s stamp more after) k r.stamped);
        legal = (record { column = omega (arith, within); live = c.live; there = c.there }, r.legal);
        out = λ j l. subst (λ (k : List Entry). IsOutAt w.known w.site k j) (append_assoc h (e ∷ []) more) (r.out j (omega (arith, l)));
      })

  tells_then : (es : List Entry) (answered : Bool) → TellsThen w r es answered → Tells w r es answered
  tells_then [] answered t = t
  tells_then ((Call caller number stamp call reply) ∷ es) answered t = t
  tells_then ((Down stamp col node (Fault count)) ∷ es) answered t = ((t.0, t.1), tells_then es answered t.2)
  tells_then ((Down stamp col node (Killed line)) ∷ es) answered t = absurd t
  tells_then ((Up stamp col node) ∷ es) answered t = tells_then es answered t
  tells_then ((Move stamp col node) ∷ es) answered t = tells_then es answered t

  swept_then : (es h : List Entry) → AllByRecursion (StaysOff w.known) es → IsSwept w.known w.site h → IsSwept w.known w.site (h ++ es)
  swept_then [] h off s = subst (IsSwept w.known w.site) (sym (append-nil h)) s
  swept_then (e ∷ es) h off s = subst (IsSwept w.known w.site) (append_assoc h (e ∷ []) es) (swept_then es (h ++ e ∷ []) off.1 (keeps_swept w.known w.site h e s off.0))

pub proceeds_is_event : ProceedsIsEvent
proceeds_is_event w r h t entries after held answered g =
    let are = g.are in
    let s = swept_by w r w.site.shape.n 0 h t g.swept g.clock (omega arith) (λ j l. absurd (omega (arith, l))) g.sweeps in
    let first : Adds w r h t g.swept g.clock false = record { tells = s.tells; stamped = s.stamped; legal = s.legal } in
    let all = adds_more w r h g.swept g.rest t g.clock after answered first (tells_then w r g.rest answered g.tells) g.stamped g.legal in
    let now : IsSwept w.known w.site (h ++ g.swept) = λ j l. s.out j (omega (arith, l)) in
    let end = swept_then w r g.rest (h ++ g.swept) g.off now in
    subst (λ (l : List Entry). Event w r h t l after answered) (sym are)
    (record { adds = all; swept = subst (IsSwept w.known w.site) (append_assoc h g.swept g.rest) end })

-- ---- one outcome

caught_known : (w : Setting) (h : List Entry) (t i stamp : ℕ) (node : NodeId) (line : ℕ) → ((x : ℕ) → w.known x ≡ w.seen x)
    → IsCaught w h t i stamp node line → IsPassed w h i → ⊥
caught_known w h t i stamp node line same c (inl down) = false≢true (sym c.live ∙ down)
caught_known w h t i stamp node line same c (inr none) =
    let there = c.there in
    let k = c.seen in
    let a : w.known node.0 ≡ None = ap w.known there ∙ none in
    let b : w.known node.0 ≡ Some k.0 = same node.0 ∙ k.1 in
    cc (a, b)

pub sweeps_one_way : SweepsOneWay
sweeps_one_way w [] h t es fs u v same a b = (a.0 ∙ sym b.0, a.1 ∙ sym b.1)
sweeps_one_way w (i ∷ is) h t es fs u v same (inl a) (inl b) = sweeps_one_way w is h t es fs u v same a.1 b.1
sweeps_one_way w (i ∷ is) h t es fs u v same (inl a) (inr b) = absurd (caught_known w h t i b.0 b.2 b.1 same b.4 a.0)
sweeps_one_way w (i ∷ is) h t es fs u v same (inr a) (inl b) = absurd (caught_known w h t i a.0 a.2 a.1 same a.4 b.0)
sweeps_one_way w (i ∷ is) h t es fs u v same (inr a) (inr b) =
    let c = a.4 in
    let d = b.4 in
    let node : a.2 ≡ b.2 = (let p = c.there in let q = d.there in let z : a.2.0 ≡ b.2.0 = p ∙ sym q in ap (λ (n : ℕ). let k : NodeId = record { 0 = n } in
    k) z) in
    let ka = c.seen in
    let kb = d.seen in
    let kill : ka.0 ≡ kb.0 = (let z : Some ka.0 ≡ Some kb.0 = sym ka.1 ∙ ap (λ (n : NodeId). w.seen n.0) node ∙ kb.1 in cc) in
    let line : a.1 ≡ b.1 = sym ka.2 ∙ ap (λ (k : NodeKill). k.line) kill ∙ kb.2 in
    let stamp : a.0 ≡ b.0 = (let p = c.stamp_is in let q = d.stamp_is in p
    ∙ ap (λ (n : NodeId). next_stamp (clock_of h) (raised w.seen t (Down 0 i n (Killed 0)))) node ∙ sym q) in
    let e : Entry = Down a.0 i a.2 (Killed a.1) in
    let f : Entry = Down b.0 i b.2 (Killed b.1) in
    let ef : e ≡ f = cc (node, line, stamp) in
    let more : Sweeps w (h ++ e ∷ []) a.0 is b.3 v =
    subst (λ (s : ℕ). Sweeps w (h ++ e ∷ []) s is b.3 v) (sym stamp) (subst (λ (k : Entry). Sweeps w (h ++ k ∷ []) b.0 is b.3 v) (sym ef) b.6) in
    let r = sweeps_one_way w is (h ++ e ∷ []) a.0 a.3 b.3 u v same a.6 more in
    (a.5 ∙ ap (λ (l : List Entry). e ∷ l) r.0 ∙ ap (λ (k : Entry). k ∷ b.3) ef ∙ sym b.5, r.1)
