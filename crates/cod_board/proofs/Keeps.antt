-- Each step of a shared board keeps its rule.
use Rattle.std.proofs.Common.{◌≡◌, ◌≢◌, ◌⊎◌, ℕ, zero, suc, ◌<◌, ◌≤◌, List, [], ◌∷◌, ◌++◌, length, set, get_or, replicate, refl, sym, ap, ◌∙◌, subst, ⊎_elim, inl, inr, arith, length-append, length-set}
use Rattle.std.proofs.Common.{get_or-set_other, get_or-set_same, eqb, eq-eqb, ne_eqb, true, false, Option, Some, None}
use mathlib.Core.Logic.{dite}
use native.Mathlib.Decide.{ℕ_discrete}
use mathlib.Core.Option as maybe
use lib.ListN.{get_elem?}
use lib.Seq.{set-get_or}
use prog.Atomic.{either}
use Rattle.atomic_table.specs.Table.{State, Me, step, keeps, Allows, Splits, Joins, Final, Seen, opening}
use Rattle.atomic_table.proofs.Lists.{at_set, at_snoc, set_else, at_longer}
use Rattle.cod_seats.specs.Totals.{Has}
use Rattle.cod_seats.proofs.Totals.{total_set, total_snoc, total_same, two_below, length-range}
use Rattle.cod_seats.proofs.Found.{has_none, has_left, has_right, has_last}
use Rattle.cod_seats.proofs.Least.{length_cut, length_least}
use Rattle.cod_board.specs.declared.kill.Kill.{Kill}
use Rattle.cod_board.specs.declared.view.View.{View}
use Rattle.cod_seats.specs.Least.{itself}
use Rattle.cod_board.specs.Words.{AreWords, Agrees, Kept, first, nobody, left_of, right_of, both_of, after_down, after_kill, Looked, Killed, kill_in, in_word}
use Rattle.cod_board.proofs.Found.{found_none, found_some, in_some_word, known_is}

abbrev St : Type 0
St = State (Unit {0}) View

abbrev M : Type 0
M = Me (Unit {0}) View

abbrev N : View → ℕ
N v = length v.numbers

words_on : (ws ws' : List ℕ) → ((i : ℕ) → 0 < get_or ws i 0 → get_or ws' i 0 ≡ get_or ws i 0) → (xs : List (ℕ × Kill)) → AreWords ws xs → AreWords ws' xs
words_on ws ws' stays [] a = tt
words_on ws ws' stays (x ∷ xs) a = (ap in_word (stays x.0 (in_some_word (get_or ws x.0 0) x.1 a.0).0) ∙ a.0, words_on ws ws' stays xs a.1)

words_append : (ws : List ℕ) (xs ys : List (ℕ × Kill)) → AreWords ws xs → AreWords ws ys → AreWords ws (xs ++ ys)
words_append ws [] ys a b = b
words_append ws (x ∷ xs) ys a b = (a.0, words_append ws xs ys a.1 b)

-- what a seat may change
record Grows (n : ℕ) (ws ws' : List ℕ) (v w : View) : Type 0 where
  wide : length ws' ≡ n
  stays : (i : ℕ) → 0 < get_or ws i 0 → get_or ws' i 0 ≡ get_or ws i 0
  seen : AreWords ws' w.seen
  lined : (i : ℕ) → 0 < get_or ws' i 0 → 4294967296 ≤ get_or ws' i 0
  made : (i : ℕ) (kill : Kill) → in_word (get_or ws' i 0) ≡ Some kill → (in_word (get_or ws i 0) ≡ Some kill) ⊎ Has (i, kill) w.made
  more : (x : ℕ × Kill) → Has x v.made → Has x w.made
  spent : w.numbers ≡ [] → w.made ≡ []
  same : N w ≡ N v

grown : (n : ℕ) (s : St) (k : Kept n s) (ws' : List ℕ) (id : ℕ) (v w : View) → get_elem? s.views id ≡ maybe.some v → Grows n s.words ws' v w
    → Kept n record { words = ws'; homes = s.homes; views = set s.views id w }
grown n s k ws' id v w at g =
    let here = set_there s.views id v w at in record {
      wide = g.wide;
      seen = λ j u e. ⊎_elim
          (λ (t : (j ≡ id) × (w ≡ u)). subst (λ (x : View). AreWords ws' x.seen) t.1 g.seen)
          (λ (t : (j ≢ id) × (get_elem? s.views j ≡ maybe.some u)). words_on s.words ws' g.stays u.seen (k.seen j u t.1))
          (at_set s.views id j w u e);
      spent = λ j u e. ⊎_elim
          (λ (t : (j ≡ id) × (w ≡ u)). subst (λ (x : View). x.numbers ≡ [] → x.made ≡ []) t.1 g.spent)
          (λ (t : (j ≢ id) × (get_elem? s.views j ≡ maybe.some u)). k.spent j u t.1)
          (at_set s.views id j w u e);
      lined = g.lined;
      made = λ i kill is. ⊎_elim
          (λ (old : in_word (get_or s.words i 0) ≡ Some kill).
          let m = k.made i kill old in
          dite (ℕ_discrete m.0 id)
          (λ e.
          let same : v ≡ m.1 = maybe.some-injective v m.1 (sym at ∙ (ap (get_elem? s.views) (sym e) ∙ m.2)) in
          (id, w, here, g.more (i, kill) (subst (λ (x : View). Has (i, kill) x.made) (sym same) m.3)))
          (λ other. (m.0, m.1, set_else s.views id m.0 w other ∙ m.2, m.3)))
          (λ (h : Has (i, kill) w.made). (id, w, here, h))
          (g.made i kill is);
      count = total_same N s.views id v w at g.same ∙ k.count;
    }
  where
    set_there : (vs : List View) (i : ℕ) (v w : View) → get_elem? vs i ≡ maybe.some v → get_elem? (set vs i w) i ≡ maybe.some w
    set_there [] i v w e = absurd (maybe.some-ne-none v (sym e))
    set_there (x ∷ xs) zero v w e = refl
    set_there (x ∷ xs) (suc i) v w e = set_there xs i v w e

-- nothing but what the seat knows changes
quiet : (n : ℕ) (s : St) (k : Kept n s) (id : ℕ) (v : View) (i : ℕ) (o : Option Kill) → get_elem? s.views id ≡ maybe.some v → in_word (get_or s.words i 0) ≡ o
    → Grows n s.words s.words v (after_down v i o)
quiet n s k id v i None at is = record { wide = k.wide; stays = λ j h. refl; seen = k.seen id v at; lined = k.lined; made = λ j kill h. inl h; more = λ x h. h; spent = k.spent id v at; same = refl }
quiet n s k id v i (Some kill) at is = record {
  wide = k.wide;
  stays = λ j h. refl;
  seen = words_append s.words v.seen ((i, kill) ∷ []) (k.seen id v at) (is, tt);
  lined = k.lined;
  made = λ j other h. inl h;
  more = λ x h. h;
  spent = k.spent id v at;
  same = refl;
}

agrees : (n : ℕ) (s : St) (k : Kept n s) (id : ℕ) (v : View) (i : ℕ) → get_elem? s.views id ≡ maybe.some v → Agrees v i (get_or s.words i 0)
agrees n s k id v i at = (k.lined i, known_is s.words i v.seen (k.seen id v at))

-- a load of a word
pub loads : (n slots id : ℕ) (me : M) (i : ℕ) → Allows (Kept n) slots id me i (λ x. x) (Looked (step slots i 0 0 maybe.none) me)
loads n slots id me i s k _ at _ =
    let v : View = me.0 in
    let w : View = after_down v i (in_word (get_or s.words i 0)) in
    let g = quiet n s k id v i (in_word (get_or s.words i 0)) at refl in (
      w,
      keeps,
      tt,
      subst (λ (ws : List ℕ). Kept n record { words = ws; homes = s.homes; views = set s.views id w }) (sym (set-get_or s.words i 0)) (grown n s k s.words id v w at g),
      (refl, agrees n s k id v i at),
    )

-- a kill, where the word was 0
kill_grows : (n : ℕ) (s : St) (k : Kept n s) (id : ℕ) (v : View) (i m : ℕ) → get_elem? s.views id ≡ maybe.some v → 0 < N v → i < n → 4294967296 ≤ m → get_or s.words i 0 ≡ 0
    → Grows n s.words (set s.words i m) v (after_kill v i (kill_in m) None)
kill_grows n s k id v i m at some inside big z =
    let wide = k.wide in
    let here : get_or (set s.words i m) i 0 ≡ m = get_or-set_same s.words i m 0 (omega arith) in
    let else_ : (j : ℕ) → j ≢ i → get_or (set s.words i m) j 0 ≡ get_or s.words j 0 = λ j o. get_or-set_other s.words i j m 0 o in
    let read : in_word (get_or (set s.words i m) i 0) ≡ Some (kill_in m) = ap in_word here ∙ sym (found_some m (λ e. absurd (omega arith))) in
    let stays : (j : ℕ) → 0 < get_or s.words j 0 → get_or (set s.words i m) j 0 ≡ get_or s.words j 0 =
    λ j h. else_ j (λ e. let a : get_or s.words j 0 ≡ 0 = ap (λ (y : ℕ). get_or s.words y 0) e ∙ z in absurd (omega arith)) in record {
      wide = length-set s.words i m ∙ wide;
      stays = stays;
      seen = words_append (set s.words i m) v.seen ((i, kill_in m) ∷ []) (words_on s.words (set s.words i m) stays v.seen (k.seen id v at)) (read, tt);
      lined = λ j h. dite (ℕ_discrete j i)
          (λ e. let a : get_or (set s.words i m) j 0 ≡ m = ap (λ (y : ℕ). get_or (set s.words i m) y 0) e ∙ here in omega arith)
          (λ o. let a = else_ j o in let b = k.lined j (omega arith) in omega arith);
      made = λ j kill h. dite (ℕ_discrete j i)
          (λ e.
          let same : Some (kill_in m) ≡ Some kill = sym read ∙ (ap (λ (y : ℕ). in_word (get_or (set s.words i m) y 0)) (sym e) ∙ h) in
          let is : kill_in m ≡ kill = cc same in
          inr (subst (λ (x : ℕ × Kill). Has x (v.made ++ (i, kill_in m) ∷ [])) (λ t. (sym e t, is t)) (has_last (i, kill_in m) v.made)))
          (λ o. inl (ap in_word (sym (else_ j o)) ∙ h));
      more = λ x h. has_left x v.made ((i, kill_in m) ∷ []) h;
      spent = λ e. let a : N v ≡ 0 = ap length e in absurd (omega arith);
      same = refl;
    }

pub kills : (n slots id : ℕ) (me : M) (i m : ℕ) → 0 < N me.0 → i < n → 4294967296 ≤ m → Allows (Kept n) slots id me i (λ x. either (eqb x 0) m x) (Killed (step slots i 0 m maybe.none) me)
kills n slots id me i m some inside big s k _ at _ =
    let v : View = me.0 in
    let found : ℕ = get_or s.words i 0 in
    let w : View = after_kill v i (kill_in m) (in_word found) in
    let new : List ℕ = set s.words i (either (eqb found 0) m found) in
    let kept : Kept n record { words = new; homes = s.homes; views = set s.views id w } =
    dite (ℕ_discrete found 0)
    (λ z.
    let yes : eqb found 0 ≡ true = eq-eqb found 0 z in
    subst (λ (p : List ℕ × Option Kill). Kept n record { words = p.0; homes = s.homes; views = set s.views id (after_kill v i (kill_in m) p.1) })
    (λ t. (set s.words i (either (sym yes t) m found), found_none found z t))
    (grown n s k (set s.words i m) id v (after_kill v i (kill_in m) None) at (kill_grows n s k id v i m at some inside big z)))
    (λ some_word.
    let no_zero : eqb found 0 ≡ false = ne_eqb found 0 some_word in
    let read = found_some found some_word in
    subst (λ (p : List ℕ × Option Kill). Kept n record { words = p.0; homes = s.homes; views = set s.views id (after_kill v i (kill_in m) p.1) })
    (λ t. ((sym (set-get_or s.words i 0) ∙ (λ u. set s.words i (either (sym no_zero u) m found))) t, read t))
    (grown n s k s.words id v (after_down v i (Some (kill_in found))) at (quiet n s k id v i (Some (kill_in found)) at (sym read)))) in
    (w, keeps, tt, kept, (refl, agrees n s k id v i at))

pub splits : (n id : ℕ) (v : View) → 2 ≤ N v → Splits (Kept n) id v (left_of v) (right_of v)
splits n id v two s k at =
    let l : View = left_of v in
    let r : View = right_of v in
    let vs : List View = set s.views id l in
    let cut = length_cut itself v.numbers in
    let one = length_least itself v.numbers in record {
      wide = k.wide;
      seen = λ j u e. ⊎_elim
          (λ (was : get_elem? vs j ≡ maybe.some u). ⊎_elim
          (λ (t : (j ≡ id) × (l ≡ u)). subst (λ (x : View). AreWords s.words x.seen) t.1 (k.seen id v at))
          (λ (t : (j ≢ id) × (get_elem? s.views j ≡ maybe.some u)). k.seen j u t.1)
          (at_set s.views id j l u was))
          (λ (same : r ≡ u). subst (λ (x : View). AreWords s.words x.seen) same (k.seen id v at))
          (at_snoc vs r u j e);
      spent = λ j u e. ⊎_elim
          (λ (was : get_elem? vs j ≡ maybe.some u). ⊎_elim
          (λ (t : (j ≡ id) × (l ≡ u)). subst (λ (x : View). x.numbers ≡ [] → x.made ≡ []) t.1 (λ z. let y : length (left_of v).numbers ≡ 0 = ap length z in absurd (omega arith)))
          (λ (t : (j ≢ id) × (get_elem? s.views j ≡ maybe.some u)). k.spent j u t.1)
          (at_set s.views id j l u was))
          (λ (same : r ≡ u). subst (λ (x : View). x.numbers ≡ [] → x.made ≡ []) same (λ _. refl))
          (at_snoc vs r u j e);
      lined = k.lined;
      made = λ i kill read.
          let m = k.made i kill read in
          dite (ℕ_discrete m.0 id)
          (λ e.
          let is : v ≡ m.1 = maybe.some-injective v m.1 (sym at ∙ (ap (get_elem? s.views) (sym e) ∙ m.2)) in
          (id, l, at_longer vs (r ∷ []) id l (set_there s.views id v l at), subst (λ (x : View). Has (i, kill) x.made) (sym is) m.3))
          (λ other. (m.0, m.1, at_longer vs (r ∷ []) m.0 m.1 (set_else s.views id m.0 l other ∙ m.2), m.3));
      count = (let a = total_snoc N vs r in let b = total_set N s.views id v l at in let m = k.count in omega arith);
    }
  where
    set_there : (vs : List View) (i : ℕ) (v w : View) → get_elem? vs i ≡ maybe.some v → get_elem? (set vs i w) i ≡ maybe.some w
    set_there [] i v w e = absurd (maybe.some-ne-none v (sym e))
    set_there (x ∷ xs) zero v w e = refl
    set_there (x ∷ xs) (suc i) v w e = set_there xs i v w e

pub joins : (n id : ℕ) (v : View) (other : ℕ) (w : View) → 0 < N v → Joins (Kept n) id v other w (both_of v w) nobody
joins n id v other w some s k at apart there =
    let u : View = both_of v w in
    let vs : List View = set s.views id u in
    let at' : get_elem? s.views other ≡ maybe.some w = ⊎_elim
    (λ (t : (other ≡ id) × (u ≡ w)). absurd (apart t.0))
    (λ (t : (other ≢ id) × (get_elem? s.views other ≡ maybe.some w)). t.1)
    (at_set s.views id other u w there) in
    let long = length-append v.numbers w.numbers in
    let mine : get_elem? (set vs other nobody) id ≡ maybe.some u = set_else vs other id nobody (λ e. apart (sym e)) ∙ set_there s.views id v u at in record {
      wide = k.wide;
      seen = λ j x e. ⊎_elim
          (λ (t : (j ≡ other) × (nobody ≡ x)). subst (λ (y : View). AreWords s.words y.seen) t.1 tt)
          (λ (t : (j ≢ other) × (get_elem? vs j ≡ maybe.some x)). ⊎_elim
          (λ (r : (j ≡ id) × (u ≡ x)). subst (λ (y : View). AreWords s.words y.seen) r.1 (words_append s.words v.seen w.seen (k.seen id v at) (k.seen other w at')))
          (λ (r : (j ≢ id) × (get_elem? s.views j ≡ maybe.some x)). k.seen j x r.1)
          (at_set s.views id j u x t.1))
          (at_set vs other j nobody x e);
      spent = λ j x e. ⊎_elim
          (λ (t : (j ≡ other) × (nobody ≡ x)). subst (λ (y : View). y.numbers ≡ [] → y.made ≡ []) t.1 (λ _. refl))
          (λ (t : (j ≢ other) × (get_elem? vs j ≡ maybe.some x)). ⊎_elim
          (λ (r : (j ≡ id) × (u ≡ x)). subst (λ (y : View). y.numbers ≡ [] → y.made ≡ []) r.1 (λ z. let y : length (v.numbers ++ w.numbers) ≡ 0 = ap length z in absurd (omega arith)))
          (λ (r : (j ≢ id) × (get_elem? s.views j ≡ maybe.some x)). k.spent j x r.1)
          (at_set s.views id j u x t.1))
          (at_set vs other j nobody x e);
      lined = k.lined;
      made = λ i kill read.
          let m = k.made i kill read in
          dite (ℕ_discrete m.0 id)
          (λ e.
          let is : v ≡ m.1 = maybe.some-injective v m.1 (sym at ∙ (ap (get_elem? s.views) (sym e) ∙ m.2)) in
          (id, u, mine, has_left (i, kill) v.made w.made (subst (λ (x : View). Has (i, kill) x.made) (sym is) m.3)))
          (λ else_. dite (ℕ_discrete m.0 other)
          (λ e.
          let is : w ≡ m.1 = maybe.some-injective w m.1 (sym at' ∙ (ap (get_elem? s.views) (sym e) ∙ m.2)) in
          (id, u, mine, has_right (i, kill) v.made w.made (subst (λ (x : View). Has (i, kill) x.made) (sym is) m.3)))
          (λ third. (m.0, m.1, set_else vs other m.0 nobody third ∙ (set_else s.views id m.0 u else_ ∙ m.2), m.3)));
      count = (let a = total_set N s.views id v u at in let b = total_set N vs other w nobody there in let m = k.count in omega arith);
    }
  where
    set_there : (vs : List View) (i : ℕ) (v w : View) → get_elem? vs i ≡ maybe.some v → get_elem? (set vs i w) i ≡ maybe.some w
    set_there [] i v w e = absurd (maybe.some-ne-none v (sym e))
    set_there (x ∷ xs) zero v w e = refl
    set_there (x ∷ xs) (suc i) v w e = set_there xs i v w e

zeros_at : (n i : ℕ) → get_or (replicate {A = ℕ} n 0) i 0 ≡ 0
zeros_at zero i = refl
zeros_at (suc n) zero = refl
zeros_at (suc n) (suc i) = zeros_at n i

-- at the start
pub starts : (n : ℕ) → Kept n (opening (replicate n 0) [] first)
starts n = record {
  wide = length-replicate_ n;
  seen = λ j u e. alone (λ (x : View). AreWords (replicate n 0) x.seen) first tt j u e;
  spent = λ j u e. alone (λ (x : View). x.numbers ≡ [] → x.made ≡ []) first (λ _. refl) j u e;
  lined = λ i h. let z = zeros_at n i in absurd (omega arith);
  made = λ i kill h. let z = zeros_at n i in let p = (in_some_word (get_or (replicate n 0) i 0) kill h).0 in absurd (omega arith);
  count = (let l = length-range 0 65536 in omega arith);
}
  where
    length-replicate_ : (n : ℕ) → length (replicate {A = ℕ} n 0) ≡ n
    length-replicate_ zero = refl
    length-replicate_ (suc n) = ap suc (length-replicate_ n)

    alone : (F : View → Type 0) (v : View) → F v → (j : ℕ) (u : View) → get_elem? (v ∷ []) j ≡ maybe.some u → F u
    alone F v f zero u e = subst F (maybe.some-injective v u e) f
    alone F v f (suc j) u e = absurd (maybe.some-ne-none u (sym e))

no_numbers : (v : View) → N v ≡ 0 → v.numbers ≡ []
no_numbers v e = none v.numbers e
  where
    none : (ps : List ℕ) → length ps ≡ 0 → ps ≡ []
    none [] z = refl
    none (p ∷ ps) z = absurd (omega arith)

-- at the end, with the seat that has all numbers
pub record Ended (n : ℕ) (v : View) (ws : List ℕ) : Type 0 where
  pub wide : length ws ≡ n
  pub lined : (i : ℕ) → 0 < get_or ws i 0 → 4294967296 ≤ get_or ws i 0
  pub seen : AreWords ws v.seen
  pub made : (i : ℕ) (kill : Kill) → in_word (get_or ws i 0) ≡ Some kill → Has (i, kill) v.made

pub ends : (n id : ℕ) (v : View) (ws : List ℕ) (xs : List (Unit {0})) → N v ≡ 65536 → Final (Seen (Kept n) id v) ws xs → Ended n v ws
ends n id v ws xs all final =
    let s = final.0 in
    let k = final.1.0 in
    let at = final.1.1 in
    let same : s.words ≡ ws = final.2 in
    subst (Ended n v) same record {
      wide = k.wide;
      lined = k.lined;
      seen = k.seen id v at;
      made = λ i kill read.
          let m = k.made i kill read in
          dite (ℕ_discrete m.0 id)
          (λ e.
          let is : v ≡ m.1 = maybe.some-injective v m.1 (sym at ∙ (ap (get_elem? s.views) (sym e) ∙ m.2)) in
          subst (λ (x : View). Has (i, kill) x.made) (sym is) m.3)
          (λ other.
          let t = two_below N s.views m.0 id m.1 v other m.2 at in
          let c = k.count in
          let z : N m.1 ≡ 0 = omega arith in
          absurd (has_none (i, kill) (subst (Has (i, kill)) (k.spent m.0 m.1 m.2 (no_numbers m.1 z)) m.3)));
    }

pub first_some : 0 < length first.numbers
first_some = let l = length-range 0 65536 in omega arith
