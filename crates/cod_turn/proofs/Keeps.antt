-- Each step of a turn keeps its rule.
use Rattle.std.proofs.Common.{◌≡◌, ◌≢◌, ℕ, zero, suc, ◌+◌, ◌-◌, ◌<◌, ◌≤◌, List, [], ◌∷◌, ◌++◌, length, set, get_or, Option, Some, None, refl, sym, ap, ◌∙◌, subst, ⊎_elim, arith, length-append}
use Rattle.std.proofs.Common.{eqb, ltb, cond, Bool, true, false}
use mathlib.Core.Logic.{dite}
use native.Mathlib.Decide.{ℕ_discrete}
use mathlib.Core.Option as maybe
use mathlib.Core.List.{IsPrefix}
use lib.ListN.{get_elem?}
use prog.Atomic.{either}
use Rattle.atomic_table.specs.Table.{State, Me, step, keeps, takes, gives, Allows, Splits, Joins, Final, Seen, opening, rest, put_back}
use Rattle.atomic_table.proofs.Lists.{at_set, at_snoc, set_again}
use Rattle.cod_chronicle.specs.declared.entry.Entry.{Entry}
use Rattle.cod_turn.specs.declared.view.View.{View}
use Rattle.cod_chronicle.specs.Standing.{OpenCalls}
use Rattle.cod_chronicle.specs.Said.{calls_by}
use Rattle.cod_turn.specs.Turning.{all_at, firsts, callers, number, holding, nobody, left_of, right_of, both_of, held_by, Stays, Fits, Kept, starting, published, Meets, AreWithin}
use Rattle.cod_turn.specs.Turning.{counted, took, put_out}
use Rattle.cod_seats.specs.Totals.{times, total, once_below, range}
use Rattle.cod_seats.specs.Least.{lowest, higher, least_of, all_but_least}
use Rattle.cod_seats.proofs.Least.{length_cut, length_least}
use Rattle.cod_turn.proofs.Totals.{firsts-all_at, length-all_at, length-firsts, firsts-append, times-cut}
use Rattle.cod_seats.proofs.Totals.{total_set, total_snoc, below_total, two_below, total_same, times-append, times-here, once_most, times-range, length-range, nothing_below}
use Rattle.cod_turn.proofs.Prefixes.{prefix_self, prefix_trans, prefix_length}

module _ {T : Type 0} (name : T → List ℕ) (log : T → List Entry) (opened : T → OpenCalls) where
  abbrev V : Type 0
  V = View T

  abbrev St : Type 0
  St = State (Option T) V

  abbrev M : Type 0
  M = Me (Option T) V

  abbrev Rule : St → Type 0
  Rule = Kept name log opened

  abbrev Fit : T → V → Type 0
  Fit = Fits name log opened

  abbrev Stay : T → List (ℕ × T) → Type 0
  Stay = Stays name log opened

  abbrev H : V → ℕ
  H v = holding v.hold

  abbrev C : ℕ → V → ℕ
  C c v = times c (callers v)

  abbrev N : V → ℕ
  N v = length v.own

  abbrev P : ℕ → V → ℕ
  P p v = times p v.places

  -- what all seats know, after a change of one
  each_set : (now now' : T) (vs : List V) (id : ℕ) (w : V) → Fit now' w → ((j : ℕ) (u : V) → j ≢ id → get_elem? vs j ≡ maybe.some u → Fit now' u)
      → (j : ℕ) (u : V) → get_elem? (set vs id w) j ≡ maybe.some u → Fit now' u
  each_set now now' vs id w mine others j u e = ⊎_elim
      (λ (t : (j ≡ id) × (w ≡ u)). subst (Fit now') t.1 mine)
      (λ (t : (j ≢ id) × (get_elem? vs j ≡ maybe.some u)). others j u t.0 t.1)
      (at_set vs id j w u e)

  held_none : (v : V) → v.hold ≡ None → H v ≡ 0
  held_none v e = ap holding e

  held_some : (v : V) (x : T) → v.hold ≡ Some x → H v ≡ 1
  held_some v x e = ap holding e

  abbrev slot_of : List (ℕ × Option T) → Option T
  slot_of [] = None
  slot_of (x ∷ xs) = x.1

  some_same : (x y : T) → Some x ≡ Some y → y ≡ x
  some_same x y e = cc

  -- the seat takes the value
  take_kept : (s : St) (k : Rule s) (id : ℕ) (v : V) → get_elem? s.views id ≡ maybe.some v → v.hold ≡ None → 0 < length v.own → k.turn ≡ 0
      → Rule record { words = 1 ∷ length (log k.now) ∷ []; homes = maybe.none ∷ []; views = set s.views id (held_by v (Some k.now)) }
  take_kept s k id v at idle some free = let w : V = held_by v (Some k.now) in let f = k.each id v at in let one = k.one in record {
    now = k.now;
    turn = 1;
    words = refl;
    one = (let t = total_set H s.views id v w at in let h = held_none v idle in omega arith);
    most = omega arith;
    home = λ e. absurd (omega arith);
    away = λ _. refl;
    each = each_set k.now k.now s.views id w
        record { named = f.named; stays = f.stays; holds = λ x e. some_same k.now x e; spent = λ e. let z : length v.own ≡ 0 = ap length e in absurd (omega arith) }
        (λ j u _ e. k.each j u e);
    apart = λ c. let t = total_same (C c) s.views id v w at refl in let a = k.apart c in omega arith;
    count = total_same N s.views id v w at refl ∙ k.count;
    places = λ p. total_same (P p) s.views id v w at refl ∙ k.places p;
  }

  -- nothing changes
  same_kept : (s : St) (k : Rule s) (ws : List ℕ) (vs : List V) → ws ≡ k.turn ∷ length (log k.now) ∷ [] → vs ≡ s.views → Rule record { words = ws; homes = s.homes; views = vs }
  same_kept s k ws vs words same = subst (λ (us : List V). Rule record { words = ws; homes = s.homes; views = us })
      (sym same) record { now = k.now; turn = k.turn; words = words; one = k.one; most = k.most; home = k.home; away = k.away; each = k.each; apart = k.apart; count = k.count; places = k.places }

  -- the others' calls stay
  stays_on : (x y : T) (cs : List ℕ) → IsPrefix (log x) (log y) → ((c : ℕ) → times c cs ≡ 0 → calls_by c (log y) ≡ calls_by c (log x)) → ((c : ℕ) → times c cs ≡ 0 → opened y c ≡ opened x c)
      → (ps : List (ℕ × T)) → ((c : ℕ) → 0 < times c (firsts ps) → times c cs ≡ 0) → Stay x ps → Stay y ps
  stays_on x y cs pre calls opens [] free st = tt
  stays_on x y cs pre calls opens (p ∷ ps) free st =
      let off = free p.0 (times-here p.0 (firsts ps)) in
      (prefix_trans (log p.1) (log x) (log y) st.0 pre, calls p.0 off ∙ st.1, opens p.0 off ∙ st.2, stays_on x y cs pre calls opens ps (λ c h. free c (omega arith)) st.3)

  stays_here : (y : T) (cs : List ℕ) → Stay y (all_at y cs)
  stays_here y [] = tt
  stays_here y (c ∷ cs) = (prefix_self (log y), refl, refl, stays_here y cs)

  stays_append : (now : T) (ps qs : List (ℕ × T)) → Stay now ps → Stay now qs → Stay now (ps ++ qs)
  stays_append now [] qs a b = b
  stays_append now (p ∷ ps) qs a b = (a.0, a.1, a.2, stays_append now ps qs a.3 b)

  stays_low : (now : T) (p : ℕ × T) (ps : List (ℕ × T)) → Stay now (p ∷ []) → Stay now ps → Stay now (lowest number p ps ∷ [])
  stays_low now p [] a b = a
  stays_low now p (q ∷ ps) a b = by_case (ltb q.0 p.0) (stays_low now q ps (b.0, b.1, b.2, tt) b.3) (stays_low now p ps a b.3)
    where
      by_case : (t : Bool) → Stay now (lowest number q ps ∷ []) → Stay now (lowest number p ps ∷ []) → Stay now (cond t (lowest number q ps) (lowest number p ps) ∷ [])
      by_case true e f = e
      by_case false e f = f

  stays_high : (now : T) (p : ℕ × T) (ps : List (ℕ × T)) → Stay now (p ∷ []) → Stay now ps → Stay now (higher number p ps)
  stays_high now p [] a b = tt
  stays_high now p (q ∷ ps) a b = by_case (ltb q.0 p.0) (a.0, a.1, a.2, stays_high now q ps (b.0, b.1, b.2, tt) b.3) (b.0, b.1, b.2, stays_high now p ps a b.3)
    where
      by_case : (t : Bool) → Stay now (p ∷ higher number q ps) → Stay now (q ∷ higher number p ps) → Stay now (cond t (p ∷ higher number q ps) (q ∷ higher number p ps))
      by_case true e f = e
      by_case false e f = f

  stays_left : (now : T) (ps : List (ℕ × T)) → Stay now ps → Stay now (all_but_least number ps)
  stays_left now [] a = tt
  stays_left now (p ∷ ps) a = stays_high now p ps (a.0, a.1, a.2, tt) a.3

  stays_right : (now : T) (ps : List (ℕ × T)) → Stay now ps → Stay now (least_of number ps)
  stays_right now [] a = tt
  stays_right now (p ∷ ps) a = stays_low now p ps (a.0, a.1, a.2, tt) a.3

  within : (now : T) (n : ℕ) (ps : List (ℕ × T)) → length (log now) ≡ n → Stay now ps → AreWithin name log opened n ps
  within now n [] is a = tt
  within now n (p ∷ ps) is a = let le = prefix_length (log p.1) (log now) a.0 in (omega arith, within now n ps is a.3)

  -- a look at the count
  pub looks : (slots id : ℕ) (me : M) → Allows Rule slots id me 1 (λ n. n) (counted name log opened me)
  looks slots id me s k _ at _ =
      let f = k.each id me.0 at in
      let found : get_or s.words 1 0 ≡ length (log k.now) = ap (λ (ws : List ℕ). get_or ws 1 0) k.words in (
        me.0,
        keeps,
        tt,
        same_kept s k _ _ (ap (λ (ws : List ℕ). set ws 1 (get_or ws 1 0)) k.words) (set_again s.views id me.0 at),
        (refl, (λ x has. found ∙ ap (λ (y : T). length (log y)) (sym (f.holds x has))), within k.now _ me.0.own (sym found) f.stays),
      )

  -- the seat takes the turn, where it is free
  pub takes_it : (slots id : ℕ) (me : M) → me.1 ≡ [] → me.0.hold ≡ None → 0 < length me.0.own
      → Allows Rule slots id me 0 (λ n. either (eqb n 0) 1 n) (took name log opened (step slots 0 0 1 maybe.none) me)
  takes_it slots id me bare idle some s k _ at _ =
      let f = k.each id me.0 at in
      let found : get_or s.words 0 0 ≡ k.turn = ap (λ (ws : List ℕ). get_or ws 0 0) k.words in
      let w : V = held_by me.0 (Some k.now) in
      dite (ℕ_discrete k.turn 0)
      (λ free. (
        w,
        takes 0 (Some k.now),
        ap (λ (hs : List (maybe.Option (Option T))). get_elem? hs 0) (k.home free),
        subst (λ (z : List ℕ × List (maybe.Option (Option T))). Rule record { words = z.0; homes = z.1; views = set s.views id w })
            (λ i. (
              sym (ap (λ (ws : List ℕ). set ws 0 (either (eqb (get_or ws 0 0) 0) 1 (get_or ws 0 0))) k.words ∙ ap (λ (t : ℕ). either (eqb t 0) 1 t ∷ length (log k.now) ∷ []) free) i,
              sym (ap (λ (hs : List (maybe.Option (Option T))). set hs 0 maybe.none) (k.home free)) i,
            ))
            (take_kept s k id me.0 at idle some free),
        (
          (λ _. (k.now, ap (λ (c : List (ℕ × Option T)). (w, (0, Some k.now) ∷ c)) bare, (sym (f.named some), f.stays))),
          (λ no. absurd (no (found ∙ free))),
        ),
      ))
      (λ taken. let most = k.most in let is : k.turn ≡ 1 = omega arith in (
        me.0,
        keeps,
        tt,
        same_kept s k _ _ (ap (λ (ws : List ℕ). set ws 0 (either (eqb (get_or ws 0 0) 0) 1 (get_or ws 0 0))) k.words ∙ ap (λ (t : ℕ). either (eqb t 0) 1 t ∷ length (log k.now) ∷ []) is
            ∙ ap (λ (t : ℕ). t ∷ length (log k.now) ∷ []) (sym is)) (set_again s.views id me.0 at),
        ((λ zero_found. absurd (taken (sym found ∙ zero_found))), (λ _. refl)),
      ))

  turn_taken : (s : St) (k : Rule s) (id : ℕ) (v : V) (x : T) → get_elem? s.views id ≡ maybe.some v → v.hold ≡ Some x → k.turn ≡ 1
  turn_taken s k id v x at has = let t = below_total H s.views id v at in let h = held_some v x has in let o = k.one in let m = k.most in omega arith

  now_is : (s : St) (k : Rule s) (id : ℕ) (v : V) (x : T) → get_elem? s.views id ≡ maybe.some v → v.hold ≡ Some x → x ≡ k.now
  now_is s k id v x at has = (k.each id v at).holds x has

  -- the value y takes the place of x, which the seat holds
  out_kept : (s : St) (k : Rule s) (id : ℕ) (v : V) (y : T) → get_elem? s.views id ≡ maybe.some v → v.hold ≡ Some k.now → 0 < length v.own
      → name y ≡ name k.now → IsPrefix (log k.now) (log y) → ((c : ℕ) → times c (callers v) ≡ 0 → calls_by c (log y) ≡ calls_by c (log k.now))
      → ((c : ℕ) → times c (callers v) ≡ 0 → opened y c ≡ opened k.now c)
      → Rule record { words = set s.words 1 (length (log y)); homes = s.homes; views = set s.views id (published name log opened v k.now y) }
  out_kept s k id v y at has some same pre calls opens =
      let x : T = k.now in
      let w : V = published name log opened v x y in
      let f = k.each id v at in
      let h = held_some v x has in
      let is = turn_taken s k id v x at has in
      let mine : callers w ≡ callers v = firsts-all_at y (callers v) in
      let long : length w.own ≡ length v.own = length-all_at y (callers v) ∙ length-firsts v.own in record {
        now = y;
        turn = k.turn;
        words = ap (λ (ws : List ℕ). set ws 1 (length (log y))) k.words;
        one = (let t = total_set H s.views id v w at in let o = k.one in omega arith);
        most = k.most;
        home = λ e. absurd (omega arith);
        away = k.away;
        each = each_set x y s.views id w
            record {
              named = λ _. f.named some ∙ sym same;
              stays = stays_here y (callers v);
              holds = λ z e. some_same y z e;
              spent = λ e. let z : length w.own ≡ 0 = ap length e in
                  absurd (omega arith);
            }
            (λ j u other e. let fu = k.each j u e in
            let free : (c : ℕ) → 0 < times c (firsts u.own) → times c (callers v) ≡ 0 = λ c here. let t = two_below (C c) s.views j id u v other e at in let a = k.apart c in omega arith in
            record {
              named = λ l. fu.named l ∙ sym same;
              stays = stays_on x y (callers v) pre calls opens u.own free fu.stays;
              holds = λ z hz. let t = two_below H s.views j id u v other e at in let hu = held_some u z hz in let o = k.one in absurd (omega arith);
              spent = fu.spent;
            });
        apart = λ c. let t = total_same (C c) s.views id v w at (ap (times c) mine) in let a = k.apart c in omega arith;
        count = total_same N s.views id v w at long ∙ k.count;
        places = λ p.
            let a : ℕ = length (log x) in let b : ℕ = length (log y) in let d : ℕ = b - a in
            let t = total_set (P p) s.views id v w at in
            let q = times-append p v.places (range a d) in
            let r = times-range p a d in
            let o = k.places p in
            let le = prefix_length (log x) (log y) pre in
            let e : a + d ≡ b = omega arith in
            let g : once_below p (a + d) ≡ once_below p b = ap (λ (n : ℕ). once_below p n) e in
            omega arith;
      }

  -- the length of the list of the value that lies in the slot is stored
  pub publishes : (slots id : ℕ) (me : M) (x y : T) (n : ℕ) → me.0.hold ≡ Some x → me.1 ≡ (0, Some y) ∷ [] → 0 < length me.0.own → n ≡ length (log y)
      → name y ≡ name x → IsPrefix (log x) (log y) → ((c : ℕ) → times c (callers me.0) ≡ 0 → calls_by c (log y) ≡ calls_by c (log x)) → ((c : ℕ) → times c (callers me.0) ≡ 0 → opened y c ≡ opened x c)
      → Allows Rule slots id me 1 (λ _. n) (λ _. put_out name log opened me)
  publishes slots id me x y n has bare some is same pre calls opens s k _ at _ =
      let now = now_is s k id me.0 x at has in
      let kept = subst (λ (z : T). me.0.hold ≡ Some z → name y ≡ name z → IsPrefix (log z) (log y) → ((c : ℕ) → times c (callers me.0) ≡ 0 → calls_by c (log y) ≡ calls_by c (log z))
      → ((c : ℕ) → times c (callers me.0) ≡ 0 → opened y c ≡ opened z c)
      → Rule record { words = set s.words 1 (length (log y)); homes = s.homes; views = set s.views id (published name log opened me.0 z y) })
      (sym now) (λ h a b c d. out_kept s k id me.0 y at h some a b c d) has same pre calls opens in (
        published name log opened me.0 x y,
        keeps,
        tt,
        subst (λ (m : ℕ). Rule record { words = set s.words 1 m; homes = s.homes; views = set s.views id (published name log opened me.0 x y) }) (sym is) kept,
        λ x' y' has' bare'. let a : x ≡ x' = cc (has, has') in let b : y ≡ y' = some_same y' y (ap slot_of (sym bare' ∙ bare)) in (λ i. (published name log opened me.0 (a i) (b i), me.1)),
      )

  -- the value goes home, and the turn is free
  pub lets_go : (slots id : ℕ) (me : M) (y : T) → me.0.hold ≡ Some y → me.1 ≡ (0, Some y) ∷ [] → 0 < length me.0.own
      → Allows Rule slots id me 0 (λ _. 0) (λ _ w. w ≡ (held_by me.0 None, []))
  lets_go slots id me y has bare some s k _ at _ =
      let v : V = me.0 in
      let w : V = held_by v None in
      let now = now_is s k id v y at has in
      let is = turn_taken s k id v y at has in
      let f = k.each id v at in (
        w,
        gives,
        tt,
        record {
          now = k.now;
          turn = 0;
          words = ap (λ (ws : List ℕ). set ws 0 0) k.words;
          one = (let t = total_set H s.views id v w at in let o = k.one in let h = held_some v y has in omega arith);
          most = omega arith;
          home = λ _. subst (λ (z : List (maybe.Option (Option T)) × List (ℕ × Option T)). put_back z.0 z.1 ≡ maybe.some (Some k.now) ∷ []) (λ i. (sym (k.away is) i, sym bare i))
              (ap (λ (z : T). maybe.some (Some z) ∷ []) now);
          away = λ e. absurd (omega arith);
          each = each_set k.now k.now s.views id w
              record { named = f.named; stays = f.stays; holds = λ x e. absurd (cc e); spent = λ e. ((f.spent e).0, refl) }
              (λ j u _ e. k.each j u e);
          apart = λ c. let t = total_same (C c) s.views id v w at refl in let a = k.apart c in omega arith;
          count = total_same N s.views id v w at refl ∙ k.count;
          places = λ p. total_same (P p) s.views id v w at refl ∙ k.places p;
        },
        ap (λ (c : List (ℕ × Option T)). (w, rest c)) bare,
      )

  -- one view becomes two
  pub splits : (id : ℕ) (v : V) → v.hold ≡ None → 2 ≤ length v.own → Splits Rule id v (left_of v) (right_of v)
  splits id v idle two s k at =
      let l : V = left_of v in
      let r : V = right_of v in
      let vs : List V = set s.views id l in
      let f = k.each id v at in
      let n = length_cut number v.own in
      let one_head = length_least number v.own in
      let none_h = held_none v idle in record {
        now = k.now;
        turn = k.turn;
        words = k.words;
        one = (let a = total_snoc H vs r in let b = total_same H s.views id v l at refl in let o = k.one in omega arith);
        most = k.most;
        home = k.home;
        away = k.away;
        each = λ j u e. ⊎_elim
            (λ (was : get_elem? vs j ≡ maybe.some u). each_set k.now k.now s.views id l
            record {
              named = λ _. f.named (omega arith);
              stays = stays_left k.now v.own f.stays;
              holds = f.holds;
              spent = λ z. let y : length (all_but_least number v.own) ≡ 0 = ap length z in
                  absurd (omega arith);
            }
            (λ i x _ e'. k.each i x e') j u was)
            (λ (same : r ≡ u). subst (Fit k.now) same
            record { named = λ _. f.named (omega arith); stays = stays_right k.now v.own f.stays; holds = λ x z. absurd (cc z); spent = λ _. (refl, refl) })
            (at_snoc vs r u j e);
        apart = λ c. let a = total_snoc (C c) vs r in let b = total_set (C c) s.views id v l at in let t = times-cut c v.own in let m = k.apart c in omega arith;
        count = (let a = total_snoc N vs r in let b = total_set N s.views id v l at in let m = k.count in omega arith);
        places = λ p. (let a = total_snoc (P p) vs r in let b = total_same (P p) s.views id v l at refl in let m = k.places p in omega arith);
      }

  -- two views become one
  pub joins : (id : ℕ) (v : V) (other : ℕ) (w : V) → v.hold ≡ None → w.hold ≡ None → 0 < length v.own → 0 < length w.own → Joins Rule id v other w (both_of v w) nobody
  joins id v other w idle idle' some some' s k at apart there =
      let u : V = both_of v w in
      let vs : List V = set s.views id u in
      let f = k.each id v at in
      let at' : get_elem? s.views other ≡ maybe.some w = ⊎_elim
      (λ (t : (other ≡ id) × (u ≡ w)). absurd (apart t.0))
      (λ (t : (other ≢ id) × (get_elem? s.views other ≡ maybe.some w)). t.1)
      (at_set s.views id other u w there) in
      let g = k.each other w at' in
      let long = length-append v.own w.own in record {
        now = k.now;
        turn = k.turn;
        words = k.words;
        one = (let a = total_same H s.views id v u at refl in let b = total_same H vs other w nobody there (sym (held_none w idle')) in let o = k.one in omega arith);
        most = k.most;
        home = k.home;
        away = k.away;
        each = each_set k.now k.now vs other nobody
            record { named = λ z. absurd (omega arith); stays = tt; holds = λ x z. absurd (cc z); spent = λ _. (refl, refl) }
            (λ j x _ e. each_set k.now k.now s.views id u
            record {
              named = λ _. f.named some;
              stays = stays_append k.now v.own w.own f.stays g.stays;
              holds = f.holds;
              spent = λ z. let y : length (v.own ++ w.own) ≡ 0 = ap length z in absurd (omega arith);
            }
            (λ i y _ e'. k.each i y e') j x e);
        apart = λ c. let a = total_set (C c) s.views id v u at in let b = total_set (C c) vs other w nobody there in let t = ap (times c) (firsts-append v.own w.own)
            ∙ times-append c (firsts v.own) (firsts w.own) in let m = k.apart c in omega arith;
        count = (let a = total_set N s.views id v u at in let b = total_set N vs other w nobody there in let m = k.count in omega arith);
        places = λ p. (let a = total_set (P p) s.views id v u at in let b = total_set (P p) vs other w nobody there in let t = times-append p v.places w.places in let m = k.places p in omega arith);
      }

  -- where one view has all numbers, what counts nothing of a view without numbers counts that view alone
  all_none : (f : V → ℕ) (vs : List V) → ((j : ℕ) (u : V) → get_elem? vs j ≡ maybe.some u → N u ≡ 0 → f u ≡ 0) → total N vs ≡ 0 → total f vs ≡ 0
  all_none f [] off z = refl
  all_none f (x ∷ xs) off z =
      let a : f x ≡ 0 = off 0 x refl (omega arith) in
      let b = all_none f xs (λ j u e. off (suc j) u e) (omega arith) in omega arith

  only : (f : V → ℕ) (vs : List V) (id : ℕ) (v : V) → get_elem? vs id ≡ maybe.some v → ((j : ℕ) (u : V) → get_elem? vs j ≡ maybe.some u → N u ≡ 0 → f u ≡ 0) → total N vs ≡ N v → total f vs ≡ f v
  only f [] id v e off all = absurd (maybe.some-ne-none v (sym e))
  only f (x ∷ xs) zero v e off all =
      let is : x ≡ v = maybe.some-injective x v e in
      let a : f x ≡ f v = ap f is in
      let b : N x ≡ N v = ap N is in
      let c = all_none f xs (λ j u e'. off (suc j) u e') (omega arith) in omega arith
  only f (x ∷ xs) (suc id) v e off all =
      let le = below_total N xs id v e in
      let a : f x ≡ 0 = off 0 x refl (omega arith) in
      let b = only f xs id v e (λ j u e'. off (suc j) u e') (omega arith) in omega arith

  no_numbers : (v : V) → N v ≡ 0 → v.own ≡ []
  no_numbers v e = none v.own e
    where
      none : (ps : List (ℕ × T)) → length ps ≡ 0 → ps ≡ []
      none [] z = refl
      none (p ∷ ps) z = absurd (omega arith)

  -- at the end, with the seat that has all numbers
  pub ends : (id : ℕ) (v : V) (ws : List ℕ) (xs : List (Option T)) → v.hold ≡ None → length v.own ≡ 65536 → Final (Seen Rule id v) ws xs
      → (x : T) × (get_elem? xs 0 ≡ maybe.some (Some x)) × Meets name log opened v x × ((p : ℕ) → times p v.places ≡ once_below p (length (log x)))
  ends id v ws xs idle all final =
      let s = final.0 in
      let k = final.1.0 in
      let at = final.1.1 in
      let f = k.each id v at in
      let sum : total N s.views ≡ N v = k.count ∙ sym all in
      let h = only H s.views id v at (λ j u e z. held_none u (((k.each j u e).spent (no_numbers u z)).1)) sum in
      let o = k.one in
      let n = held_none v idle in
      let free : k.turn ≡ 0 = omega arith in (
        k.now,
        final.4 0 (Some k.now) (ap (λ (hs : List (maybe.Option (Option T))). get_elem? hs 0) (k.home free)),
        (sym (f.named (omega arith)), f.stays),
        λ p. sym (only (P p) s.views id v at (λ j u e z. ap (times p) (((k.each j u e).spent (no_numbers u z)).0)) sum) ∙ k.places p,
      )

  -- at the start
  pub starts : (x : T) (n : ℕ) → n ≡ length (log x) → Rule (opening (0 ∷ n ∷ []) (Some x ∷ []) (starting name log opened x))
  starts x n is =
      let v : V = starting name log opened x in
      let long : length v.own ≡ 65536 = length-all_at x (range 0 65536) ∙ length-range 0 65536 in record {
        now = x;
        turn = 0;
        words = ap (λ (m : ℕ). 0 ∷ m ∷ []) is;
        one = refl;
        most = omega arith;
        home = λ _. refl;
        away = λ e. absurd (omega arith);
        each = one_view x v record {
          named = λ _. refl;
          stays = stays_here x (range 0 65536);
          holds = λ y z. absurd (cc z);
          spent = λ z. let y : length v.own ≡ 0 = ap length z in
              absurd (omega arith);
        };
        apart = λ c. let a = ap (times c) (firsts-all_at x (range 0 65536)) in let b = times-range c 0 65536 in let d = once_most c (0 + 65536) in omega arith;
        count = omega arith;
        places = λ p.
            let n : ℕ = length (log x) in
            let b = times-range p 0 n in
            let z = nothing_below p in
            let e : 0 + n ≡ n = omega arith in
            let g : once_below p (0 + n) ≡ once_below p n = ap (λ (m : ℕ). once_below p m) e in omega arith;
      }
    where
      one_view : (x : T) (v : V) → Fit x v → (j : ℕ) (u : V) → get_elem? (v ∷ []) j ≡ maybe.some u → Fit x u
      one_view x v fit zero u e = subst (Fit x) (maybe.some-injective v u e) fit
      one_view x v fit (suc j) u e = absurd (maybe.some-ne-none u (sym e))

pub still_some : {T : Type 0} (y : T) (ps : List (ℕ × T)) → 0 < length ps → 0 < length (all_at y (firsts ps))
still_some y ps h = let e = length-all_at y (firsts ps) ∙ length-firsts ps in omega arith

pub has_all : {T : Type 0} (x : T) → 0 < length (all_at x (range 0 65536))
has_all x = let e = length-all_at x (range 0 65536) ∙ length-range 0 65536 in omega arith
