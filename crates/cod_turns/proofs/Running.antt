-- Whole runs.
use Rattle.std.proofs.Common.{◌≡◌, ◌≢◌, ◌⊎◌, ℕ, zero, suc, ◌+◌, ◌-◌, ◌<◌, ◌≤◌, ◌^◌, Bool, true, false, cond, eqb, Option, Some, None, List, [], ◌∷◌, ◌++◌, length, take, map, set, replicate, refl}
use Rattle.std.proofs.Common.{sym, ap, ◌∙◌, subst, inl, inr, arith}
use Rattle.std.specs.Prelude.{slice_get, is_some, IsSome}
use Rattle.std.specs.List.{filter, filter_map, AllByRecursion, All, cons_option, range_with_len}
use Rattle.std.proofs.lemmas.Bool.{cases_lt, cases_eq, eq-eqb, ne_eqb, lt-ltb, le-ltb}
use Rattle.std.proofs.lemmas.List.{append-nil, append_assoc, take_all, length-set, length-replicate, set-set}
use Rattle.std.proofs.lemmas.List.Elements.{All-from_recursion, recursion_from_All}
use Rattle.std.proofs.lemmas.List.FromFn.{length-range_with_len}
use Rattle.cod_types.specs.declared.call.NodeId.{NodeId}
use Rattle.cod_types.specs.declared.call.Caller.{Caller}
use Rattle.cod_types.specs.declared.call.Call.{Call as Asked}
use Rattle.cod_types.specs.declared.call.Reply.{Reply}
use mathlib.Core.Path.{fun_ext}
use Rattle.cod_chronicle.specs.declared.entry.Entry.{Entry}
use Rattle.cod_chronicle.specs.declared.entry.Entry.TheVariants.{Call, Down, Up, Move}
use Rattle.cod_chronicle.specs.declared.entry.Cause.TheVariants.{Killed, Fault}
use Rattle.cod_chronicle.specs.Said.{site_as, stamp_of, clock_of, next_stamp, last_stamp, RisesFrom, StampsRise, IsChronicle, number_by}
use Rattle.cod_chronicle.specs.Legal.{IsLegal}
use Rattle.cod_chronicle.specs.Order.{Placed, stamp_at, place, placed, placed_from, by_stamp, order}
use Rattle.cod_chronicle.specs.Whole.{HasStamp, numbers_of}
use Rattle.std.proofs.lemmas.List.Sums.{get_or-le-sum_by}
use Rattle.std.proofs.lemmas.List.{get_or_past, length-append, length-map}
use Rattle.std.proofs.Math.Nat.{mul-le-mul_left, mul-le-mul_right}
use Rattle.std.proofs.Common.{◌*◌}
use Rattle.cod_chronicle.specs.Said.{numbers_by}
use Rattle.cod_chronicle.specs.Laws.{CallsBelow}
use Rattle.cod_chronicle.proofs.Growth.{clock_of-push}
use Rattle.cod_chronicle.proofs.Orders.{gap, Each-weaker, Each-append}
use Rattle.cod_chronicle.proofs.Entry_count.{has_few_entries, has_few_calls, placed_few}
use Rattle.cod_script.specs.Script.{Client, nobody}
use Rattle.cod_script.specs.Sound.{IsScenario, line_count}
use Rattle.cod_chronicle.specs.Event.{Setting, Request, Tells}
use Rattle.cod_turns.specs.Turns.{setting, request_of, is_answered, is_held}
use Rattle.cod_chronicle.proofs.Adding.{keeps_chronicle, keeps_legal}
use Rattle.cod_script.specs.declared.line.Line.{Line}
use Rattle.cod_script.specs.declared.line.What.TheVariants.{Segment, Fail}
use Rattle.cod_script.specs.Script.{Script, Ask, ask_of, asks, lines_by}
use Rattle.cod_script.specs.Owed.{FailsBehind, IsLicensed, asked_by, SeesFailsAfter, StandsAfter, IsHistory, owed}
use Rattle.cod_chronicle.specs.Event.{NodeKill, raised, IsSeenReply, Stamped}
use Rattle.cod_turns.specs.Turns.{World, Course, OthersStay, start, Serves, Kills, kept, board_clock, Turn, Turns, AllEnded}
use Rattle.cod_turns.proofs.Entering.{IsAnswered, Told, told_by}
use Rattle.cod_turns.specs.Whole_runs.{LinesApart, RunsAreHistories, FailsAreKills}
use Rattle.cod_turns.specs.declared.turned.Turned.{Turned}
use Rattle.cod_turns.specs.declared.turned.Turned.TheVariants.{Ended, Killed as NodeKilled, Held, Moved, Answered}
use Rattle.cod_turns.proofs.Numbering.{lines_are_apart}
use Rattle.cod_chronicle.specs.Standing.{OpenCalls}
use Rattle.cod_chronicle.specs.Event.{Event}
use Rattle.cod_chronicle.proofs.Sweeping.{proceeds_is_event}
use Rattle.cod_turns.proofs.Lists.{length-insert, slice_get-set_same, slice_get-set_other, one_at, take_front, take_front_more, asks_push}
use Rattle.cod_turns.proofs.Kept.{MovesOn, Enters, Kept, kept_then, IsKill, IsMark, IsClock, IsClock-all, IsRanked, count, says}

-- one more entry
entered : (x : Script) (may : ℕ → Bool) (who s : ℕ) (e : Entry) (w v : World) → Enters x may who s e w v → length (placed v.chronicles) ≡ length (placed w.chronicles) + 1
entered x may who s e w v E =
    let G = gap 0 s w.chronicles E.h E.there in
    let g = E.grown in
    ap (λ (l : List (List Entry)). length (placed l)) g ∙ ap length (G.with_one e) ∙ length-insert G.before G.behind (place (0 + s) e) ∙ sym (ap (λ (l : List Placed). length l + 1) G.are)

enters : (x : Script) (may : ℕ → Bool) (who s : ℕ) (e : Entry) (w v : World) → Enters x may who s e w v → length (placed w.chronicles) + 1 < last_stamp → Kept x may w → Kept x may v
enters x may who s e w v E few K =
    let G = gap 0 s w.chronicles E.h E.there in
    let z : 0 + s ≡ s = omega arith in
    let g = E.grown in
    let new : placed v.chronicles ≡ G.before ++ place s e ∷ G.behind =
    ap placed g ∙ G.with_one e ∙ ap (λ (i : ℕ). G.before ++ place i e ∷ G.behind) z in
    kept_then x may who s e w v E K few G.before G.behind G.are new

set_same : (hs : List (List Entry)) (s : ℕ) (h : List Entry) → slice_get hs s ≡ Some h → set hs s h ≡ hs
set_same [] s h is = refl
set_same (g ∷ hs) zero h is = (let e : g ≡ h = cc in ap (λ (k : List Entry). k ∷ hs) (sym e))
set_same (g ∷ hs) (suc s) h is = ap (λ (l : List (List Entry)). g ∷ l) (set_same hs s h is)

-- what is open doesn't matter
whatever_opened : (x : Script) (may : ℕ → Bool) (v : World) (opened : ℕ → OpenCalls) → Kept x may (record v { opened = opened }) → Kept x may v
whatever_opened x may v opened K = record {
  rises = K.rises;
  ends = K.ends;
  asked = K.asked;
  numbers = K.numbers;
  ranks = K.ranks;
  below = K.below;
  small = K.small;
  gaps = K.gaps;
  clocks = K.clocks;
  kills = K.kills;
  done = K.done;
  licensed = K.licensed;
  marks = K.marks;
  seen = K.seen;
}

-- nothing changes but how it is written
same_world : (x : Script) (may : ℕ → Bool) (w v : World) → v.chronicles ≡ w.chronicles → v.board ≡ w.board → ((c : ℕ) → v.next c ≡ w.next c) → ((c : ℕ) → v.clock c ≡ w.clock c) → Kept x may w
    → Kept x may v
same_world x may w v h b n t K =
    let next : v.next ≡ w.next = fun_ext n in
    let clock : v.clock ≡ w.clock = fun_ext t in
    let all : w ≡ record v { opened = w.opened } = λ i. record { chronicles = sym h i; opened = w.opened; board = sym b i; next = sym next i; clock = sym clock i } in
    whatever_opened x may v w.opened (subst (Kept x may) all K)

-- after an entry of a client
abbrev after : World → ℕ → ℕ → List Entry → ℕ → World
after w who s h t = record { chronicles = set w.chronicles s h; opened = w.opened; board = w.board; next = w.next; clock = λ c. cond (eqb c who) t (w.clock c) }

module _ (x : Script) (may : ℕ → Bool) (who s : ℕ) where
  put_after : (hs : List (List Entry)) (h es : List Entry) (e : Entry) → set (set hs s (h ++ e ∷ [])) s ((h ++ e ∷ []) ++ es) ≡ set hs s (h ++ e ∷ es)
  put_after hs h es e = set-set hs s (h ++ e ∷ []) ((h ++ e ∷ []) ++ es) ∙ ap (set hs s) (append_assoc h (e ∷ []) es)

  mark_enters : (e : Entry) (h : List Entry) (w : World) → slice_get w.chronicles s ≡ Some h → stamp_of e ≡ next_stamp (clock_of h) (raised w.board (w.clock who) e)
      → MovesOn x may w who s h e (w.next who) → Enters x may who s e w (after w who s (h ++ e ∷ []) (stamp_of e))
  mark_enters e h w there stamp m = record {
    h = h;
    there = there;
    grown = refl;
    board = refl;
    stamp = stamp;
    clock = ap (λ (b : Bool). cond b (stamp_of e) (w.clock who)) (eq-eqb who who refl);
    moves = m;
    others = λ c ne. (refl, ap (λ (b : Bool). cond b (stamp_of e) (w.clock c)) (ne_eqb c who ne));
  }

  abbrev Rest : List Entry → Type 0
  Rest es = (h : List Entry) (w v : World) → slice_get w.chronicles s ≡ Some h → v.chronicles ≡ set w.chronicles s (h ++ es) → v.board ≡ w.board → OthersStay who w v
      → Stamped w.board (clock_of h) (w.clock who) es (v.clock who) → Told x may w.board who s h (w.next who) es (v.next who)
      → length (placed w.chronicles) + length es < last_stamp → Kept x may w → Kept x may v

  -- a mark, and then the rest
  mark_then : (e : Entry) (es h : List Entry) (w v : World) → Rest es → slice_get w.chronicles s ≡ Some h → v.chronicles ≡ set w.chronicles s (h ++ e ∷ es) → v.board ≡ w.board
      → OthersStay who w v
      → Stamped w.board (clock_of h) (w.clock who) (e ∷ es) (v.clock who) → MovesOn x may w who s h e (w.next who) → Told x may w.board who s (h ++ e ∷ []) (w.next who) es (v.next who)
      → length (placed w.chronicles) + length (e ∷ es) < last_stamp → Kept x may w → Kept x may v
  mark_then e es h w v rest there grown board others stamped m told few K =
      let u = after w who s (h ++ e ∷ []) (stamp_of e) in
      let E = mark_enters e h w there stamped.0 m in
      let n = entered x may who s e w u E in
      let K2 = enters x may who s e w u E (omega arith) K in
      let k : u.clock who ≡ stamp_of e = E.clock in
      rest (h ++ e ∷ []) u v (slice_get-set_same w.chronicles s (h ++ e ∷ []) h there) (grown ∙ sym (put_after w.chronicles h es e)) board
      (λ c ne. let o = others c ne in (o.0, o.1 ∙ sym ((E.others c ne).1)))
      (subst (λ (a : ℕ). Stamped w.board a (u.clock who) es (v.clock who)) (sym (clock_of-push h e)) (subst (λ (b : ℕ). Stamped w.board (stamp_of e) b es (v.clock who)) (sym k) stamped.1))
      told (omega arith) K2

  -- the client's call, and nothing after it
  call_then : (caller : Caller) (number stamp : ℕ) (call : Asked) (reply : Reply) (es h : List Entry) (w v : World) → slice_get w.chronicles s ≡ Some h
      → v.chronicles ≡ set w.chronicles s (h ++ (Call caller number stamp call reply) ∷ es) → v.board ≡ w.board → OthersStay who w v
      → Stamped w.board (clock_of h) (w.clock who) ((Call caller number stamp call reply) ∷ es) (v.clock who)
      → IsAnswered x w.board (w.next who) who s h caller.0 number call → IsSeenReply w.board may reply → es ≡ [] → v.next who ≡ w.next who + 1
      → length (placed w.chronicles) + length ((Call caller number stamp call reply) ∷ es) < last_stamp → Kept x may w → Kept x may v
  call_then caller number stamp call reply es h w v there grown board others stamped a r none next few K =
      let e : Entry = Call caller number stamp call reply in
      let t : Stamped w.board stamp stamp [] (v.clock who) = subst (λ (l : List Entry). Stamped w.board stamp stamp l (v.clock who)) none stamped.1 in
      let E : Enters x may who s e w v = record {
        h = h;
        there = there;
        grown = grown ∙ ap (λ (l : List Entry). set w.chronicles s (h ++ e ∷ l)) none;
        board = board;
        stamp = stamped.0;
        clock = t;
        moves = (a, r, next);
        others = others;
      } in
      enters x may who s e w v E (omega arith) K

  all_entered : (es : List Entry) → Rest es
  all_entered [] h w v there grown board others stamped told few K =
      same_world x may w v (grown ∙ ap (set w.chronicles s) (append-nil h) ∙ set_same w.chronicles s h there) board
      (λ c. elim (cases_eq c who) [ inl same ↦ ap v.next same ∙ told ∙ ap w.next (sym same) | inr diff ↦ (others c diff).0 ])
      (λ c. elim (cases_eq c who) [ inl same ↦ ap v.clock same ∙ stamped ∙ ap w.clock (sym same) | inr diff ↦ (others c diff).1 ])
      K
  all_entered ((Call caller number stamp call reply) ∷ es) h w v there grown board others stamped told few K =
      call_then caller number stamp call reply es h w v there grown board others stamped told.0 told.1.0 told.1.1.0 told.1.1.1 few K
  all_entered ((Down stamp col node cause) ∷ es) h w v there grown board others stamped told few K =
      mark_then (Down stamp col node cause) es h w v (all_entered es) there grown board others stamped (told.0, refl) told.1 few K
  all_entered ((Up stamp col node) ∷ es) h w v there grown board others stamped told few K =
      mark_then (Up stamp col node) es h w v (all_entered es) there grown board others stamped refl told few K
  all_entered ((Move stamp col node) ∷ es) h w v there grown board others stamped told few K =
      mark_then (Move stamp col node) es h w v (all_entered es) there grown board others stamped refl told few K

no_number : (o : Option ℕ) (n : ℕ) → is_some o ≡ false → o ≡ Some n → ⊥
no_number o n f s = let t : is_some o ≡ true = ap is_some s in cc

one : (P Q : Placed → Type 0) (t : Placed → Bool) → ((p : Placed) → P p → Q p) → ((p : Placed) → t p ≡ false → Q p) → (p : Placed) (ps : List Placed) → (AllByRecursion P (filter t ps)
    → AllByRecursion Q ps)
    → (b : Bool) → t p ≡ b → AllByRecursion P (cond b (p ∷ filter t ps) (filter t ps)) → Q p × AllByRecursion Q ps
one P Q t f g p ps r true e a = (f p a.0, r a.1)
one P Q t f g p ps r false e a = (g p e, r a)

unfiltered : (P Q : Placed → Type 0) (t : Placed → Bool) → ((p : Placed) → P p → Q p) → ((p : Placed) → t p ≡ false → Q p) → (ps : List Placed) → AllByRecursion P (filter t ps)
    → AllByRecursion Q ps
unfiltered P Q t f g [] a = tt
unfiltered P Q t f g (p ∷ ps) a = one P Q t f g p ps (unfiltered P Q t f g ps) (t p) refl a

kept_some : (o : Option NodeKill) (k : NodeKill) → IsSome (kept o k)
kept_some None k = refl
kept_some (Some old) k = refl

module _ (x : Script) (may : ℕ → Bool) (who : ℕ) (w v : World) (T : Kills x who w v) (K : Kept x may w) where
  mine : NodeKill
  mine = record { line = T.line; clock = board_clock (w.clock who) }

  -- the node's first kill
  here : v.board T.node.0 ≡ kept (w.board T.node.0) (record { line = T.line; clock = board_clock (w.clock who) })
  here = T.board T.node.0 ∙ ap (λ (b : Bool). cond b (kept (w.board T.node.0) (record { line = T.line; clock = board_clock (w.clock who) })) (w.board T.node.0)) (eq-eqb T.node.0 T.node.0 refl)

  elsewhere : (y : ℕ) → y ≢ T.node.0 → v.board y ≡ w.board y
  elsewhere y ne = T.board y ∙ ap (λ (b : Bool). cond b (kept (w.board y) (record { line = T.line; clock = board_clock (w.clock who) })) (w.board y)) (ne_eqb y T.node.0 ne)

  -- a kill that was there stays
  still : (y : ℕ) (k : NodeKill) → w.board y ≡ Some k → v.board y ≡ Some k
  still y k is = elim (cases_eq y T.node.0) [
    | inl same ↦ ap v.board same ∙ here ∙ ap (λ (o : Option NodeKill). kept o (record { line = T.line; clock = board_clock (w.clock who) })) (ap w.board (sym same) ∙ is)
    | inr diff ↦ elsewhere y diff ∙ is
  ]

  still_some : (o : Option NodeKill) (y : ℕ) → w.board y ≡ o → IsSome o → IsSome (v.board y)
  still_some None y is h = absurd (cc)
  still_some (Some k) y is h = ap is_some (still y k is)

  next_up : (c : ℕ) → w.next c ≤ v.next c
  next_up c = elim (cases_eq c who) [
    | inl same ↦ (let a : v.next c ≡ v.next who = ap v.next same in let b : w.next c ≡ w.next who = ap w.next same in let n = T.next in omega arith)
    | inr diff ↦ (let o = T.others c diff in let a = o.0 in omega arith)
  ]

  clock_same : (c : ℕ) → v.clock c ≡ w.clock c
  clock_same c = elim (cases_eq c who) [
    | inl same ↦ ap v.clock same ∙ T.clock ∙ sym (ap w.clock same)
    | inr diff ↦ (T.others c diff).1
  ]

  -- a `fail` line is no call
  asks_same : (c : ℕ) → asks (take (v.next c) (lines_by x c)) ≡ asks (take (w.next c) (lines_by x c))
  asks_same c = elim (cases_eq c who) [
    | inl same ↦
        let front = T.at.front in
        let l : Line = record { line = T.line; what = Fail T.node } in
        let a : v.next c ≡ w.next who + 1 = ap v.next same ∙ T.next in
        let ls : lines_by x c ≡ front ++ l ∷ T.at.rest = ap (lines_by x) same ∙ T.at.lines in
        let wn : w.next c ≡ w.next who = ap w.next same in
        let u : take (v.next c) (lines_by x c) ≡ front ++ l ∷ [] = ap (λ (m : ℕ). take m (lines_by x c)) a ∙ take_front_more (lines_by x c) front T.at.rest l (w.next who) ls T.at.place in
        let t : take (w.next c) (lines_by x c) ≡ front = ap (λ (m : ℕ). take m (lines_by x c)) wn ∙ take_front (lines_by x c) front T.at.rest l (w.next who) ls T.at.place in
        ap asks u ∙ asks_push front T.line (Fail T.node) ∙ append-nil (asks front) ∙ sym (ap asks t)
    | inr diff ↦ (let n = (T.others c diff).0 in ap (λ (m : ℕ). asks (take m (lines_by x c))) n)
  ]

  kill_same : (y : ℕ) (k : NodeKill) → IsKill x (placed w.chronicles) w.next y k → IsKill x (placed w.chronicles) v.next y k
  kill_same y k i = record { who = i.who; front = i.front; behind = i.behind; done = (let n = next_up i.who in let d = i.done in omega arith); clock = i.clock; covers = i.covers }

  kill_new : IsKill x (placed w.chronicles) v.next T.node.0 (record { line = T.line; clock = board_clock (w.clock who) })
  kill_new = record {
    who = who;
    front = T.at.front;
    behind = record { rest = T.at.rest; at = T.node; node_is = refl; lines_are = T.at.lines };
    done = (let p = T.at.place in let n = T.next in omega arith);
    clock = elim (cases_lt (w.clock who) (2 ^ 32)) [
      | inl lt ↦ (let e : board_clock (w.clock who) ≡ w.clock who = ap (λ (b : Bool). cond b (w.clock who) 0) (lt-ltb (w.clock who) (2 ^ 32) lt) in rw e (K.clocks who))
      | inr ge ↦ inl (ap (λ (b : Bool). cond b (w.clock who) 0) (le-ltb (w.clock who) (2 ^ 32) ge))
    ];
    covers = λ all number l.
        let lt : w.clock who < 2 ^ 32 = IsClock-all (λ t. t < 2 ^ 32) (placed w.chronicles) (w.clock who) (omega arith) all (K.clocks who) in
        let e : board_clock (w.clock who) ≡ w.clock who = ap (λ (b : Bool). cond b (w.clock who) 0) (lt-ltb (w.clock who) (2 ^ 32) lt) in
        unfiltered (λ p. stamp_at p ≤ w.clock who) (λ p. number_by who p.entry ≡ Some number → stamp_at p ≤ board_clock (w.clock who)) (says who)
        (λ p h n. omega arith) (λ p f n. absurd (no_number (number_by who p.entry) number f n)) (placed w.chronicles) (K.below who);
  }

  kills_here : (y : ℕ) (k : NodeKill) (o : Option NodeKill) → w.board T.node.0 ≡ o → y ≡ T.node.0 → kept o (record { line = T.line; clock = board_clock (w.clock who) }) ≡ Some k
      → IsKill x (placed w.chronicles) v.next y k
  kills_here y k None is same now =
      let e : (record { line = T.line; clock = board_clock (w.clock who) }) ≡ k = cc in
      subst (λ (y : ℕ). IsKill x (placed w.chronicles) v.next y k) (sym same) (subst (IsKill x (placed w.chronicles) v.next T.node.0) e kill_new)
  kills_here y k (Some old) is same now =
      kill_same y k (K.kills y k (ap w.board same ∙ is ∙ now))

  kills_now : (y : ℕ) (k : NodeKill) → v.board y ≡ Some k → IsKill x (placed w.chronicles) v.next y k
  kills_now y k is = elim (cases_eq y T.node.0) [
    | inl same ↦ kills_here y k (w.board T.node.0) refl same (sym here ∙ sym (ap v.board same) ∙ is)
    | inr diff ↦ kill_same y k (K.kills y k (sym (elsewhere y diff) ∙ is))
  ]

  done_now : (c : ℕ) (front : List Line) (line node : ℕ) → FailsBehind x c front line node → length front < v.next c → IsSome (v.board node)
  done_now c front line node f l = elim (cases_lt (length front) (w.next c)) [
    | inl early ↦ still_some (w.board node) node refl (K.done c front line node f early)
    | inr late ↦ elim (cases_eq c who) [
      | inl same ↦
          let a : v.next c ≡ v.next who = ap v.next same in
          let b : w.next c ≡ w.next who = ap w.next same in
          let n = T.next in
          let p = T.at.place in
          let lines : front ++ (record { line = line; what = Fail f.at }) ∷ f.rest ≡ T.at.front ++ (record { line = T.line; what = Fail T.node }) ∷ T.at.rest =
          sym f.lines_are ∙ ap (lines_by x) same ∙ T.at.lines in
          let k = one_at front f.rest T.at.front T.at.rest (record { line = line; what = Fail f.at }) (record { line = T.line; what = Fail T.node }) lines (omega arith) in
          let what : Fail f.at ≡ Fail T.node = ap (λ (l : Line). l.what) k in
          let at : node ≡ T.node.0 = (let q : f.at ≡ T.node = cc in sym f.node_is ∙ ap (λ (n : NodeId). n.0) q) in
          subst (λ (y : ℕ). IsSome (v.board y)) (sym at) (ap is_some here ∙ kept_some (w.board T.node.0) (record { line = T.line; clock = board_clock (w.clock who) }))
      | inr diff ↦ (let o = T.others c diff in let n = o.0 in absurd (omega arith))
    ]
  ]

  mark_still : (e : Entry) → IsMark w.board e → IsMark v.board e
  mark_still (Down stamp col node (Killed line)) m = (m.0, still node.0 m.0 m.1, m.2, m.3)
  mark_still (Down stamp col node (Fault count)) m = tt
  mark_still (Call caller number stamp call reply) m = tt
  mark_still (Up stamp col node) m = tt
  mark_still (Move stamp col node) m = tt

  kills_kept : Kept x may v
  kills_kept =
      let u : World = record { chronicles = w.chronicles; opened = v.opened; board = v.board; next = v.next; clock = v.clock } in
      let k : Kept x may u = record {
        rises = K.rises;
        ends = K.ends;
        asked = λ c. K.asked c ∙ sym (asks_same c);
        numbers = λ c. K.numbers c ∙ sym (ap (λ (l : List Ask). range_with_len 0 (length l)) (asks_same c));
        ranks = λ s h is c. subst (λ (n : ℕ). IsRanked n (filter_map (number_by c) h)) (sym (ap length (asks_same c))) (K.ranks s h is c);
        below = λ c. subst (λ (t : ℕ). AllByRecursion (λ p. stamp_at p ≤ t) (filter (says c) (placed w.chronicles))) (sym (clock_same c)) (K.below c);
        small = K.small;
        gaps = K.gaps;
        clocks = λ c. subst (λ (t : ℕ). IsClock (placed w.chronicles) t) (sym (clock_same c)) (K.clocks c);
        kills = kills_now;
        done = done_now;
        licensed = K.licensed;
        marks = Each-weaker (λ p. IsMark w.board p.entry) (λ p. IsMark v.board p.entry) (λ p h. mark_still p.entry h) (placed w.chronicles) K.marks;
        seen = K.seen;
      } in
      let same = T.same in
      subst (λ (hs : List (List Entry)). Kept x may (record { chronicles = hs; opened = v.opened; board = v.board; next = v.next; clock = v.clock })) (sym same) k

-- each chronicle is legal, there are as many as there are segments, and each call is a client's
pub record Sound (x : Course) (w : World) : Type 0 where
  pub kept : Kept x.script x.may w
  pub count : length w.chronicles ≡ length x.script.segments
  pub legal : (s : ℕ) (h : List Entry) → slice_get w.chronicles s ≡ Some h → IsLegal (site_as x.told x.script.shape x.script.nodes s) h
  pub calls : (s : ℕ) (h : List Entry) → slice_get w.chronicles s ≡ Some h → AllByRecursion (CallsBelow (length x.script.clients) (line_count x.script.clients)) h

rises_chronicle : (h : List Entry) → RisesFrom 0 h → StampsRise h
rises_chronicle [] r = tt
rises_chronicle (e ∷ h) r = r.1

chronicle_in : (x : Course) (w : World) → Sound x w → (s : ℕ) (h : List Entry) → slice_get w.chronicles s ≡ Some h → IsChronicle h
chronicle_in x w S s h is = record { stamps = rises_chronicle h (S.kept.rises s h is); numbers = λ c. (S.kept.ranks s h is c).0 }

-- ---- there are few entries

abbrev most : ℕ
most = 3 * (64 * 2 ^ 32) + 16

pub mul_le : (a b c d : ℕ) → a ≤ c → b ≤ d → a * b ≤ c * d
mul_le a b c d l m = (let p = mul-le-mul_right b l in let q = mul-le-mul_left c m in omega (arith, p, q))

pub each_of : (P : List Entry → Type 0) (hs : List (List Entry)) → ((s : ℕ) (h : List Entry) → slice_get hs s ≡ Some h → P h) → AllByRecursion P hs
each_of P [] f = tt
each_of P (h ∷ hs) f = (f 0 h refl, each_of P hs (λ s k is. f (suc s) k is))

few_all : (x : Script) → IsScenario x → (told : Bool) (hs : List (List Entry)) → length hs ≡ length x.segments
    → ((s : ℕ) (h : List Entry) → slice_get hs s ≡ Some h → IsChronicle h × IsLegal (site_as told x.shape x.nodes s) h × AllByRecursion (CallsBelow (length x.clients) (line_count x.clients)) h)
    → length (placed hs) < 2 ^ 60
few_all x X told hs count each =
    let c = X.most_clients in
    let l = X.few_lines in
    let n = X.shape.most_columns in
    let g = X.most_segments in
    let m = mul_le (length x.clients) (line_count x.clients) 64 (2 ^ 32) c (omega arith) in
    let all = each_of (λ h. length h ≤ most) hs (λ s h is. let e = each s h is in
    let a = has_few_entries (site_as told x.shape x.nodes s) h e.1 in
    let b = has_few_calls (length x.clients) (line_count x.clients) h e.0 e.2 in
    omega (arith, a, b, m, n)) in
    let p = placed_few most 0 hs all in
    let q = mul_le (length hs) most 1024 most (omega (arith, g, count)) (omega arith) in
    omega (arith, p, q)

few_now : (x : Course) → IsScenario x.script → (w : World) → Sound x w → length (placed w.chronicles) < 2 ^ 60
few_now x X w S = few_all x.script X x.told w.chronicles S.count (λ s h is. (chronicle_in x w S s h is, S.legal s h is, S.calls s h is))

longer_by : (i s : ℕ) (hs : List (List Entry)) (h es : List Entry) → slice_get hs s ≡ Some h → length (placed_from i (set hs s (h ++ es))) ≡ length (placed_from i hs) + length es
longer_by i s [] h es is = cc
longer_by i zero (g ∷ hs) h es is =
    let same : g ≡ h = cc in
    let a = length-append (map (λ e. place i e) (h ++ es)) (placed_from (i + 1) hs) in
    let b = length-append (map (λ e. place i e) g) (placed_from (i + 1) hs) in
    let c = length-map (h ++ es) (λ e. place i e) in
    let d = length-map g (λ e. place i e) in
    let f = length-append h es in
    let k : length g ≡ length h = ap length same in
    omega (arith, a, b, c, d, f, k)
longer_by i (suc s) (g ∷ hs) h es is =
    let a = length-append (map (λ e. place i e) g) (placed_from (i + 1) (set hs s (h ++ es))) in
    let b = length-append (map (λ e. place i e) g) (placed_from (i + 1) hs) in
    let r = longer_by (i + 1) s hs h es is in
    omega (arith, a, b, r)

-- a client that has a line is there, and its lines are among all
line_there : (x : Script) (who : ℕ) (front rest : List Line) (l : Line) → lines_by x who ≡ front ++ l ∷ rest → (who < length x.clients) × (length front < line_count x.clients)
line_there x who front rest l is =
    let n : length (lines_by x who) ≡ length front + length (l ∷ rest) = ap length is ∙ length-append front (l ∷ rest) in
    elim (cases_lt who (length x.clients)) [
      | inl lt ↦ (let b = get_or-le-sum_by (λ (c : Client). length c.lines) x.clients who nobody lt in (lt, omega (arith, b, n)))
      | inr ge ↦ absurd (let e : length (lines_by x who) ≡ 0 = ap (λ (c : Client). length c.lines) (get_or_past x.clients who nobody ge) in omega (arith, e, n))
    ]

pub fewer_asks : (ls : List Line) → length (asks ls) ≤ length ls
fewer_asks [] = omega arith
fewer_asks (l ∷ ls) = by (ask_of l.what) (fewer_asks ls) where
  by : (o : Option Ask) → length (asks ls) ≤ length ls → length (cons_option o (asks ls)) ≤ suc (length ls)
  by None h = omega arith
  by (Some k) h = omega arith

new_calls : (callers numbers : ℕ) (w : Setting) (r : Request) (es : List Entry) (answered : Bool) → Tells w r es answered → r.caller < callers → r.number < numbers
    → AllByRecursion (CallsBelow callers numbers) es
new_calls callers numbers w r [] answered t a b = tt
new_calls callers numbers w r ((Call caller number stamp call reply) ∷ es) answered t a b =
    let c = t.0 in let n = t.1 in let none = t.4 in
    ((omega (arith, c, a), omega (arith, n, b)), subst (AllByRecursion (CallsBelow callers numbers)) (sym none) tt)
new_calls callers numbers w r ((Down stamp col node cause) ∷ es) answered t a b = (tt, new_calls callers numbers w r es answered t.1 a b)
new_calls callers numbers w r ((Up stamp col node) ∷ es) answered t a b = (tt, new_calls callers numbers w r es answered t a b)
new_calls callers numbers w r ((Move stamp col node) ∷ es) answered t a b = (tt, new_calls callers numbers w r es answered t a b)

-- a chronicle after a turn is the old one, or that of the turn's segment
grown_get : (hs ks : List (List Entry)) (s i : ℕ) (h new k : List Entry) → slice_get hs s ≡ Some h → ks ≡ set hs s new → slice_get ks i ≡ Some k
    → ((i ≡ s) × (k ≡ new)) ⊎ (slice_get hs i ≡ Some k)
grown_get hs ks s i h new k at grown is = elim (cases_eq i s) [
  | inl same ↦
      let a = slice_get-set_same hs s new h at in
      inl (same, (let b : Some k ≡ Some new = sym is ∙ ap (λ (l : List (List Entry)). slice_get l i) grown ∙ ap (slice_get (set hs s new)) same ∙ a in cc))
  | inr diff ↦ inr (sym (slice_get-set_other hs s i new diff) ∙ ap (λ (l : List (List Entry)). slice_get l i) (sym grown) ∙ is)
]

-- ---- one turn

module _ (x : Course) (X : IsScenario x.script) (who : ℕ) (w v : World) (turned : Turned) (T : Serves x who w v turned) (S : Sound x w) where
  abbrev r : Request
  r = request_of who T.at.front T.call

  event : Event (setting x w T.seg.0) r T.h (w.clock who) T.entries (v.clock who) (is_answered turned)
  event = proceeds_is_event (setting x w T.seg.0) r T.h (w.clock who) T.entries (v.clock who) (is_held turned) (is_answered turned) T.event

  there : (who < length x.script.clients) × (length T.at.front < line_count x.script.clients)
  there = line_there x.script who T.at.front T.at.rest (record { line = T.line; what = Segment T.seg T.call }) T.at.lines

  numbers_low : All (λ m. m < r.number) (numbers_by who T.h)
  numbers_low =
      let t : take (w.next who) (lines_by x.script who) ≡ T.at.front =
      take_front (lines_by x.script who) T.at.front T.at.rest (record { line = T.line; what = Segment T.seg T.call }) (w.next who) T.at.lines T.at.place in
      let k = (S.kept.ranks T.seg.0 T.h T.there who).1 in
      subst (λ (ls : List Line). All (λ m. m < length (asks ls)) (numbers_by who T.h)) t k

  clock_low : clock_of T.h ≤ last_stamp
  clock_low =
      let f = few_now x X w S in
      let c = IsClock-all (λ t. t ≤ length (placed w.chronicles)) (placed w.chronicles) (clock_of T.h) (omega arith) S.kept.small (S.kept.ends T.seg.0 T.h T.there) in
      omega (arith, f, c)

  chronicle_new : IsChronicle (T.h ++ T.entries)
  chronicle_new = keeps_chronicle (setting x w T.seg.0) r T.h T.entries (w.clock who) (v.clock who) (is_answered turned) (chronicle_in x w S T.seg.0 T.h T.there) clock_low numbers_low event.adds

  legal_new : IsLegal (site_as x.told x.script.shape x.script.nodes T.seg.0) (T.h ++ T.entries)
  legal_new = keeps_legal (setting x w T.seg.0) r T.h T.entries (w.clock who) (v.clock who) (is_answered turned) (S.legal T.seg.0 T.h T.there) event.adds

  calls_new : AllByRecursion (CallsBelow (length x.script.clients) (line_count x.script.clients)) (T.h ++ T.entries)
  calls_new =
      let a = fewer_asks T.at.front in
      let b = there.1 in
      Each-append (CallsBelow (length x.script.clients) (line_count x.script.clients)) T.h T.entries (S.calls T.seg.0 T.h T.there)
      (new_calls (length x.script.clients) (line_count x.script.clients) (setting x w T.seg.0) r T.entries (is_answered turned) event.adds.tells there.0 (omega (arith, a, b)))

  each_now : (P : ℕ → List Entry → Type 0) → P T.seg.0 (T.h ++ T.entries) → ((s : ℕ) (h : List Entry) → slice_get w.chronicles s ≡ Some h → P s h)
      → (s : ℕ) (h : List Entry) → slice_get v.chronicles s ≡ Some h → P s h
  each_now P new old s h is = elim (grown_get w.chronicles v.chronicles T.seg.0 s T.h (T.h ++ T.entries) h T.there T.grown is) [
    | inl here ↦ subst (λ (i : ℕ). P i h) (sym here.0) (subst (P T.seg.0) (sym here.1) new)
    | inr other ↦ old s h other
  ]

  legal_now : (s : ℕ) (h : List Entry) → slice_get v.chronicles s ≡ Some h → IsLegal (site_as x.told x.script.shape x.script.nodes s) h
  legal_now = each_now (λ s h. IsLegal (site_as x.told x.script.shape x.script.nodes s) h) legal_new S.legal

  calls_now : (s : ℕ) (h : List Entry) → slice_get v.chronicles s ≡ Some h → AllByRecursion (CallsBelow (length x.script.clients) (line_count x.script.clients)) h
  calls_now = each_now (λ s h. AllByRecursion (CallsBelow (length x.script.clients) (line_count x.script.clients)) h) calls_new S.calls

  chronicles_now : (s : ℕ) (h : List Entry) → slice_get v.chronicles s ≡ Some h → IsChronicle h
  chronicles_now = each_now (λ s h. IsChronicle h) chronicle_new (chronicle_in x w S)

  count_now : length v.chronicles ≡ length x.script.segments
  count_now = (let g = T.grown in ap length g ∙ length-set w.chronicles T.seg.0 (T.h ++ T.entries) ∙ S.count)

  few_then : length (placed w.chronicles) + length T.entries < last_stamp
  few_then =
      let g = T.grown in
      let f = few_all x.script X x.told v.chronicles count_now (λ s h is. (chronicles_now s h is, legal_now s h is, calls_now s h is)) in
      let l : length (placed v.chronicles) ≡ length (placed w.chronicles) + length T.entries = ap (λ (hs : List (List Entry)). length (placed hs)) g
      ∙ longer_by 0 T.seg.0 w.chronicles T.h T.entries T.there in
      omega (arith, f, l)

  told_now : Told x.script x.may w.board who T.seg.0 T.h (w.next who) T.entries (v.next who)
  told_now =
      let n = T.next in
      subst (Told x.script x.may w.board who T.seg.0 T.h (w.next who) T.entries) (sym n)
      (told_by x w who T.line T.seg T.call T.at T.entries T.h (is_answered turned) event.adds.tells event.swept)

  pub serves_sound : Sound x v
  serves_sound = record {
    kept = all_entered x.script x.may who T.seg.0 T.entries T.h w v T.there T.grown T.board T.others event.adds.stamped told_now few_then S.kept;
    count = count_now;
    legal = legal_now;
    calls = calls_now;
  }

kills_sound : (x : Course) (who : ℕ) (w v : World) → Kills x.script who w v → Sound x w → Sound x v
kills_sound x who w v T S =
    let same = T.same in
    record {
      kept = kills_kept x.script x.may who w v T S.kept;
      count = ap length same ∙ S.count;
      legal = λ s h is. S.legal s h (sym (ap (λ (l : List (List Entry)). slice_get l s) same) ∙ is);
      calls = λ s h is. S.calls s h (sym (ap (λ (l : List (List Entry)). slice_get l s) same) ∙ is);
    }

-- a turn keeps it
pub turn : (x : Course) → IsScenario x.script → (who : ℕ) (w v : World) (turned : Turned) → Turn x who w v turned → Sound x w → Sound x v
turn x X who w v Ended T S = (let e = T.same in subst (Sound x) (sym e) S)
turn x X who w v NodeKilled T S = kills_sound x who w v T S
turn x X who w v (Held owner number) T S = serves_sound x X who w v (Held owner number) T S
turn x X who w v Moved T S = serves_sound x X who w v Moved T S
turn x X who w v (Answered position stamp) T S = serves_sound x X who w v (Answered position stamp) T S

pub turns : (x : Course) → IsScenario x.script → (schedule : List ℕ) (w v : World) → Turns x schedule w v → Sound x w → Sound x v
turns x X [] w v h S = subst (Sound x) (sym h) S
turns x X (who ∷ rest) w v h S = turns x X rest h.0 v h.3 (turn x X who w h.0 h.1 h.2 S)

-- nothing has happened yet
none_placed : (i n : ℕ) → placed_from i (replicate n []) ≡ []
none_placed i zero = refl
none_placed i (suc n) = none_placed (i + 1) n

empty_each : (n s : ℕ) (h : List Entry) → slice_get (replicate n []) s ≡ Some h → h ≡ []
empty_each zero s h is = cc
empty_each (suc n) zero h is = cc
empty_each (suc n) (suc s) h is = empty_each n s h is

pub start_sound : (x : Course) → Sound x (start (length x.script.segments))
start_sound x =
    let n = length x.script.segments in
    let ps : placed (replicate n []) ≡ [] = none_placed 0 n in
    record {
      kept = record {
        rises = λ s h is. subst (RisesFrom 0) (sym (empty_each n s h is)) tt;
        ends = λ s h is. inl (ap clock_of (empty_each n s h is));
        asked = λ c. ap (λ (l : List Placed). asked_by c (by_stamp l)) ps;
        numbers = λ c. ap (λ (l : List Placed). numbers_of c (by_stamp l)) ps;
        ranks = λ s h is c. subst (λ (l : List Entry). IsRanked 0 (filter_map (number_by c) l)) (sym (empty_each n s h is)) (λ i j d a b. absurd (omega arith), λ k d l. absurd (omega arith));
        below = λ c. subst (λ (l : List Placed). AllByRecursion (λ p. stamp_at p ≤ 0) (filter (says c) l)) (sym ps) tt;
        small = subst (λ (l : List Placed). AllByRecursion (λ p. stamp_at p ≤ length l) l) (sym ps) tt;
        gaps = subst (λ (l : List Placed). AllByRecursion (λ p. (stamp_at p ≤ 1) ⊎ HasStamp l (stamp_at p - 1)) l) (sym ps) tt;
        clocks = λ c. inl refl;
        kills = λ y k is. absurd (cc);
        done = λ c front line node f l. absurd (omega arith);
        licensed = subst (λ (l : List Placed). AllByRecursion (λ p. IsLicensed x.script x.may p.entry) l) (sym ps) tt;
        marks = subst (λ (l : List Placed). AllByRecursion (λ p. IsMark (λ y. None) p.entry) l) (sym ps) tt;
        seen = λ s h is. subst (SeesFailsAfter x.script (site_as true x.script.shape x.script.nodes s) []) (sym (empty_each n s h is)) tt;
      };
      count = length-replicate n [];
      legal = λ s h is. subst (IsLegal (site_as x.told x.script.shape x.script.nodes s)) (sym (empty_each n s h is)) tt;
      calls = λ s h is. subst (AllByRecursion (CallsBelow (length x.script.clients) (line_count x.script.clients))) (sym (empty_each n s h is)) tt;
    }

-- all stamps below 2^32: the marks of killed nodes stand after what their clients did before
stands : (x : Script) (ps : List Placed) (board : ℕ → Option NodeKill) (next : ℕ → ℕ) → LinesApart x → ((y : ℕ) (k : NodeKill) → board y ≡ Some k → IsKill x ps next y k)
    → AllByRecursion (λ p. stamp_at p < 2 ^ 32) ps → (e : Entry) → IsMark board e → StandsAfter x ps e
stands x ps board next apart kills all (Down stamp col node (Killed line)) m =
    λ who number front f l.
    let k = m.0 in
    let i = kills node.0 k m.1 in
    let b : FailsBehind x i.who i.front line node.0 = subst (λ (l : ℕ). FailsBehind x i.who i.front l node.0) m.2 i.behind in
    let same = apart line node.0 node.0 who i.who front i.front f b in
    let c : AllByRecursion (λ p. number_by i.who p.entry ≡ Some number
    → stamp_at p ≤ k.clock) ps = i.covers all number (let e : length (asks front) ≡ length (asks i.front) = ap (λ (ls : List Line). length (asks ls)) same.1 in omega arith) in
    All-from_recursion (λ p. number_by who p.entry ≡ Some number → stamp_at p < stamp) ps
    (Each-weaker (λ p. number_by i.who p.entry ≡ Some number → stamp_at p ≤ k.clock) (λ p. number_by who p.entry ≡ Some number → stamp_at p < stamp)
    (λ p h n. let t = h (ap (λ (c : ℕ). number_by c p.entry) (sym same.0) ∙ n) in let s = m.3 in omega arith) ps c)
stands x ps board next apart kills all (Down stamp col node (Fault count)) m = tt
stands x ps board next apart kills all (Call caller number stamp call reply) m = tt
stands x ps board next apart kills all (Up stamp col node) m = tt
stands x ps board next apart kills all (Move stamp col node) m = tt

-- where each client has ended, the chronicles are one history
pub history : (x : Course) (w : World) → IsScenario x.script → Sound x w → AllEnded x.script w → IsHistory x.told x.script x.may (owed x.script) w.chronicles
history x w X S ended =
    let apart = lines_are_apart x.script X in
    let K = S.kept in
    let whole : (c : ℕ) → take (w.next c) (lines_by x.script c) ≡ lines_by x.script c = λ c. take_all (w.next c) (lines_by x.script c) (ended c) in
    record {
      count = S.count;
      whole = record {
        each = λ s h is. (chronicle_in x w S s h is, S.legal s h is);
        numbers = λ c.
            let n = K.numbers c in
            let l : length (numbers_of c (order w.chronicles)) ≡ count x.script w c = ap length n ∙ length-range_with_len 0 (count x.script w c) in
            n ∙ sym (ap (range_with_len 0) l);
        stamps = All-from_recursion (λ p. (stamp_at p ≤ 1) ⊎ HasStamp (placed w.chronicles) (stamp_at p - 1)) (placed w.chronicles) K.gaps;
      };
      licensed = All-from_recursion (λ p. IsLicensed x.script x.may p.entry) (placed w.chronicles) K.licensed;
      holds = λ c. K.asked c ∙ ap asks (whole c);
      obeys = record {
        seen = K.seen;
        after = λ all.
            let a : AllByRecursion (λ p. stamp_at p < 2 ^ 32) (placed w.chronicles) = recursion_from_All (λ p. stamp_at p < 2 ^ 32) (placed w.chronicles) all in
            All-from_recursion (λ p. StandsAfter x.script (placed w.chronicles) p.entry) (placed w.chronicles)
            (Each-weaker (λ p. IsMark w.board p.entry) (λ p. StandsAfter x.script (placed w.chronicles) p.entry)
            (λ p m. stands x.script (placed w.chronicles) w.board w.next apart K.kills a p.entry m) (placed w.chronicles) K.marks);
      };
    }

pub runs_are_histories : RunsAreHistories
runs_are_histories x schedule w X run ended = history x w X (turns x X schedule (start (length x.script.segments)) w run (start_sound x)) ended

some_kill : (o : Option NodeKill) → IsSome o → (k : NodeKill) × (o ≡ Some k)
some_kill None h = absurd (cc)
some_kill (Some k) h = (k, refl)

-- the board has exactly the kills of the `fail` lines
pub fails_are_kills : FailsAreKills
fails_are_kills x schedule w X run ended node =
    let K = (turns x X schedule (start (length x.script.segments)) w run (start_sound x)).kept in (
      λ some. (let k = some_kill (w.board node) some in let i = K.kills node k.0 k.1 in (k.0.line, record { who = i.who; front = i.front; behind = i.behind })),
      λ f.
          let b = f.1.behind in
          let l : length (lines_by x.script f.1.who) ≡ length (f.1.front ++ (record { line = f.0; what = Fail b.at }) ∷ b.rest) = ap length b.lines_are in
          let n = length-append f.1.front ((record { line = f.0; what = Fail b.at }) ∷ b.rest) in
          let e = ended f.1.who in
          K.done f.1.who f.1.front f.0 node b (omega (arith, l, n, e)),
    )
