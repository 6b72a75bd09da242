-- Each step of shared pools keeps the sums.
use Rattle.std.proofs.Common.{◌≡◌, ◌≢◌, ℕ, zero, suc, ◌+◌, ◌-◌, ◌<◌, ◌≤◌, ◌%◌, ◌^◌, List, [], ◌∷◌, ◌++◌, length, set, get_or, refl, sym, ap, ◌∙◌, subst, arith, length-set, get_or-set_other}
use Rattle.std.proofs.Common.{get_or-set_same, eqb, eq-eqb, ne_eqb, cond, Bool, true, false}
use mathlib.Core.Logic.{dite}
use native.Mathlib.Decide.{ℕ_discrete}
use mathlib.Core.Option as maybe
use lib.ListN.{get_elem?}
use lib.Seq.{set-get_or}
use prog.Atomic.{either}
use Rattle.atomic_table.specs.Table.{State, Me, Step, step, keeps, Allows, Splits, Joins, Final, Seen, opening}
use Rattle.atomic_table.proofs.Lists.{at_set, set_again}
use Rattle.cod_seats.specs.Totals.{total}
use Rattle.cod_seats.proofs.Totals.{total_set, total_snoc, total_same, below_total}
use Rattle.cod_place.specs.declared.view.View.{View}
use Rattle.cod_place.specs.Free.{at_node, Kept, nobody, looked, took, gave, both_of, Looked, Took, Gave, Staged, less, staged, after_first, first_bytes, taken_from, first_view, Counted, head_of}
use Rattle.cod_place.specs.Free.{tail_of}
use Rattle.cod_place.specs.Room.{room_view}
use Rattle.cod_place.specs.Rooms.{Store}

abbrev St : Type 0
St = State (Unit {0}) View

abbrev M : Type 0
M = Me (Unit {0}) View

abbrev B : ℕ → View → ℕ
B i v = at_node i v.bytes

pub at_node-append : (i : ℕ) (xs ys : List (ℕ × ℕ)) → at_node i (xs ++ ys) ≡ at_node i xs + at_node i ys
at_node-append i [] ys = omega arith
at_node-append i (x ∷ xs) ys = let more = at_node-append i xs ys in omega arith

pub at_one : (i n : ℕ) → at_node i ((i, n) ∷ []) ≡ n
at_one i n = let e : cond {A = ℕ} (eqb i i) n 0 ≡ n = ap (λ (b : Bool). cond {A = ℕ} b n 0) (eq-eqb i i refl) in omega arith

pub at_other : (i j n : ℕ) → i ≢ j → at_node j ((i, n) ∷ []) ≡ 0
at_other i j n o = let e : cond {A = ℕ} (eqb i j) n 0 ≡ 0 = ap (λ (b : Bool). cond {A = ℕ} b n 0) (ne_eqb i j o) in omega arith

-- a step that changes the word i by as much as the view's bytes there
moved : (cap : ℕ) (s : St) (k : Kept cap s) (id : ℕ) (v w : View) (i n : ℕ) → get_elem? s.views id ≡ maybe.some v
    → (i < length s.words → n + B i w ≡ get_or s.words i 0 + B i v) → ((j : ℕ) → j ≢ i → B j w ≡ B j v)
    → Kept cap record { words = set s.words i n; homes = s.homes; views = set s.views id w }
moved cap s k id v w i n at here else_ = record {
  low = k.low;
  sums = λ j inside.
      let long = length-set s.words i n in
      let inside' : j < length s.words = omega arith in
      let t = total_set (B j) s.views id v w at in
      let o = k.sums j inside' in
      dite (ℕ_discrete j i)
      (λ e. subst (λ (z : ℕ). get_or (set s.words i n) z 0 + total (B z) (set s.views id w) ≡ cap) (sym e)
      (let inside_i : i < length s.words = omega arith in
      let g = get_or-set_same s.words i n 0 inside_i in
      let h = here inside_i in
      let t' = total_set (B i) s.views id v w at in
      let o' = k.sums i inside_i in omega arith))
      (λ other. let g = get_or-set_other s.words i j n 0 other in let b = else_ j other in omega arith);
}

pub loads : (cap slots id : ℕ) (me : M) (i : ℕ) → Allows (Kept cap) slots id me i (λ x. x) (Looked (step slots i 0 0 maybe.none) me)
loads cap slots id me i s k _ at _ =
    let w : View = looked me.0 i (get_or s.words i 0) in
    (w, keeps, tt, moved cap s k id me.0 w i (get_or s.words i 0) at (λ _. refl) (λ j _. refl), refl)

pub takes_it : (cap slots id : ℕ) (me : M) (i a b : ℕ) → b ≤ a → Allows (Kept cap) slots id me i (λ x. either (eqb x a) b x) (Took (step slots i a b maybe.none) me)
takes_it cap slots id me i a b less s k _ at _ =
    let found : ℕ = get_or s.words i 0 in
    let v : View = me.0 in
    let w : View = record { bytes = (i, a - b) ∷ v.bytes; looks = v.looks } in
    dite (ℕ_discrete found a)
    (λ hit.
    let yes : eqb found a ≡ true = eq-eqb found a hit in (
      w,
      keeps,
      tt,
      subst (λ (t : Bool). Kept cap record { words = set s.words i (either t b found); homes = s.homes; views = set s.views id w }) (sym yes)
          (moved cap s k id v w i b at (λ _. let o = at_one i (a - b) in let e : cond {A = ℕ} (eqb i i) (a - b) 0 ≡ a - b = ap (λ (t : Bool). cond {A = ℕ} t (a - b) 0) (eq-eqb i i refl) in
          omega arith)
          (λ j o. let e : cond {A = ℕ} (eqb i j) (a - b) 0 ≡ 0 = ap (λ (t : Bool). cond {A = ℕ} t (a - b) 0) (ne_eqb i j (λ z. o (sym z))) in omega arith)),
      ap (λ (t : Bool). (cond t w v, me.1)) (sym yes),
    ))
    (λ miss.
    let off : eqb found a ≡ false = ne_eqb found a miss in (
      v,
      keeps,
      tt,
      subst (λ (t : Bool). Kept cap record { words = set s.words i (either t b found); homes = s.homes; views = set s.views id v }) (sym off)
          (moved cap s k id v v i found at (λ _. refl) (λ j _. refl)),
      ap (λ (t : Bool). (cond t w v, me.1)) (sym off),
    ))

-- a room's seat gives bytes back
pub gives_back : (cap slots id : ℕ) (me : M) (i n b : ℕ) → me.0 ≡ room_view i b → n ≤ b → Allows (Kept cap) slots id me i (λ x. (x + n) % 2 ^ 64) (Gave (step slots i n 0 maybe.none) me)
gives_back cap slots id me i n b is less s k _ at _ =
    let found : ℕ = get_or s.words i 0 in
    let v : View = me.0 in
    let has : B i v ≡ b = ap (B i) is ∙ at_one i b in
    let low = k.low in
    let w : View = gave v i n in
    let mine : B i w ≡ b - n = at_one i (B i v - n) ∙ ap (λ (z : ℕ). z - n) has in (
      w,
      keeps,
      tt,
      moved cap s k id v w i ((found + n) % 2 ^ 64) at
          (λ inside. let o = k.sums i inside in let t = below_total (B i) s.views id v at in omega arith)
          (λ j o. at_other i j (B i v - n) (λ z. o (sym z)) ∙ sym (ap (B j) is ∙ at_other i j b (λ z. o (sym z)))),
      refl,
    )

pub splits : (cap id : ℕ) (v : View) → Splits (Kept cap) id v v nobody
splits cap id v s k at = record {
  low = k.low;
  sums = λ j inside. let a = total_snoc (B j) (set s.views id v) nobody in let b = total_same (B j) s.views id v v at refl in let o = k.sums j inside in omega arith;
}

pub joins : (cap id : ℕ) (v : View) (other : ℕ) (w : View) → Joins (Kept cap) id v other w (both_of v w) nobody
joins cap id v other w s k at apart there = record {
  low = k.low;
  sums = λ j inside.
      let u : View = both_of v w in
      let a = total_set (B j) s.views id v u at in
      let b = total_set (B j) (set s.views id u) other w nobody there in
      let t = at_node-append j v.bytes w.bytes in
      let o = k.sums j inside in omega arith;
}

less_step_yes : (i b : ℕ) (x : ℕ × ℕ) (xs : List (ℕ × ℕ)) (j : ℕ) → eqb x.0 i ≡ true → at_node j (less i b (x ∷ xs)) ≡ cond (eqb x.0 j) (x.1 - b) 0 + at_node j (less i (b - x.1) xs)
less_step_yes i b x xs j e = ap (λ (t : Bool). at_node j (cond t ((x.0, x.1 - b) ∷ less i (b - x.1) xs) (x ∷ less i b xs))) e

less_step_other : (i b : ℕ) (x : ℕ × ℕ) (xs : List (ℕ × ℕ)) (j : ℕ) → eqb x.0 i ≡ false → at_node j (less i b (x ∷ xs)) ≡ cond (eqb x.0 j) x.1 0 + at_node j (less i b xs)
less_step_other i b x xs j e = ap (λ (t : Bool). at_node j (cond t ((x.0, x.1 - b) ∷ less i (b - x.1) xs) (x ∷ less i b xs))) e

cond_yes : (t : Bool) (n : ℕ) → t ≡ true → cond {A = ℕ} t n 0 ≡ n
cond_yes t n e = ap (λ (u : Bool). cond {A = ℕ} u n 0) e

cond_other : (t : Bool) (n : ℕ) → t ≡ false → cond {A = ℕ} t n 0 ≡ 0
cond_other t n e = ap (λ (u : Bool). cond {A = ℕ} u n 0) e

pub less_here : (i b : ℕ) (xs : List (ℕ × ℕ)) → b ≤ at_node i xs → at_node i (less i b xs) + b ≡ at_node i xs
less_here i b [] within = omega arith
less_here i b (x ∷ xs) within = dite (ℕ_discrete x.0 i)
    (λ is.
    let e = eq-eqb x.0 i is in
    let l = less_step_yes i b x xs i e in
    let p = cond_yes (eqb x.0 i) (x.1 - b) e in
    let q = cond_yes (eqb x.0 i) x.1 e in
    let more = less_here i (b - x.1) xs (omega arith) in omega arith)
    (λ other.
    let e = ne_eqb x.0 i other in
    let l = less_step_other i b x xs i e in
    let q = cond_other (eqb x.0 i) x.1 e in
    let more = less_here i b xs (omega arith) in omega arith)

pub less_other : (i j b : ℕ) (xs : List (ℕ × ℕ)) → j ≢ i → at_node j (less i b xs) ≡ at_node j xs
less_other i j b [] other = refl
less_other i j b (x ∷ xs) other = dite (ℕ_discrete x.0 i)
    (λ is.
    let l = less_step_yes i b x xs j (eq-eqb x.0 i is) in
    let away : eqb x.0 j ≡ false = ne_eqb x.0 j (λ z. other (sym z ∙ is)) in
    let m = cond_other (eqb x.0 j) (x.1 - b) away in
    let n = cond_other (eqb x.0 j) x.1 away in
    let more = less_other i j (b - x.1) xs other in omega arith)
    (λ apart.
    let l = less_step_other i b x xs j (ne_eqb x.0 i apart) in
    let more = less_other i j b xs other in omega arith)

staged_same : (i b : ℕ) (v : View) → b ≤ at_node i v.bytes → (j : ℕ) → B j (staged v i b) ≡ B j v
staged_same i b v within j = dite (ℕ_discrete j i)
    (λ e. subst (λ (z : ℕ). B z (staged v i b) ≡ B z v) (sym e)
    (let o : cond {A = ℕ} (eqb i i) b 0 ≡ b = ap (λ (t : Bool). cond {A = ℕ} t b 0) (eq-eqb i i refl) in let l = less_here i b v.bytes within in omega arith))
    (λ other. let o : cond {A = ℕ} (eqb i j) b 0 ≡ 0 = ap (λ (t : Bool). cond {A = ℕ} t b 0) (ne_eqb i j (λ z. other (sym z))) in let l = less_other i j b v.bytes other in omega arith)

either_same : (n b : ℕ) → either (eqb n b) b n ≡ n
either_same n b = dite (ℕ_discrete n b)
    (λ e. ap (λ (t : Bool). either t b n) (eq-eqb n b e) ∙ sym e)
    (λ other. ap (λ (t : Bool). either t b n) (ne_eqb n b other))

-- bytes are set apart, and the word stays
pub stages : (cap slots id : ℕ) (me : M) (i b : ℕ) → b ≤ at_node i me.0.bytes → Allows (Kept cap) slots id me i (λ x. either (eqb x b) b x) (Staged (step slots i b b maybe.none) me)
stages cap slots id me i b within s k _ at _ =
    let found : ℕ = get_or s.words i 0 in
    let v : View = me.0 in
    let w : View = staged v i b in (
      w,
      keeps,
      tt,
      subst (λ (n : ℕ). Kept cap record { words = set s.words i n; homes = s.homes; views = set s.views id w }) (sym (either_same found b))
          (moved cap s k id v w i found at (λ _. let e = staged_same i b v within i in omega arith) (λ j _. staged_same i b v within j)),
      refl,
    )

cut : (j : ℕ) (xs : List (ℕ × ℕ)) → at_node j (tail_of xs) + at_node j (head_of xs) ≡ at_node j xs
cut j [] = refl
cut j (x ∷ xs) = omega arith

-- the first bytes go to a new seat
pub splits_first : (cap id : ℕ) (v : View) → Splits (Kept cap) id v (after_first v) (first_bytes v)
splits_first cap id v s k at = record {
  low = k.low;
  sums = λ j inside.
      let a = total_snoc (B j) (set s.views id (after_first v)) (first_bytes v) in
      let b = total_set (B j) s.views id v (after_first v) at in
      let c = cut j v.bytes in
      let o = k.sums j inside in omega arith;
}

-- what isn't free
taken_before : (cap a : ℕ) (free : List ℕ) (j : ℕ) → j < a → at_node j (taken_from cap a free) ≡ 0
taken_before cap a [] j low = refl
taken_before cap a (f ∷ free) j low =
    let e : cond {A = ℕ} (eqb a j) (cap - f) 0 ≡ 0 = ap (λ (t : Bool). cond {A = ℕ} t (cap - f) 0) (ne_eqb a j (λ z. omega arith)) in
    let more = taken_before cap (a + 1) free j (omega arith) in omega arith

taken_here : (cap a : ℕ) (free : List ℕ) (i : ℕ) → i < length free → at_node (a + i) (taken_from cap a free) ≡ cap - get_or free i 0
taken_here cap a [] i inside = absurd (omega arith)
taken_here cap a (f ∷ free) zero inside =
    let z : a + 0 ≡ a = omega arith in
    subst (λ (j : ℕ). at_node j (taken_from cap a (f ∷ free)) ≡ cap - f) (sym z)
    (let e : cond {A = ℕ} (eqb a a) (cap - f) 0 ≡ cap - f = ap (λ (t : Bool). cond {A = ℕ} t (cap - f) 0) (eq-eqb a a refl) in
    let more = taken_before cap (a + 1) free a (omega arith) in omega arith)
taken_here cap a (f ∷ free) (suc i) inside =
    let e : cond {A = ℕ} (eqb a (a + suc i)) (cap - f) 0 ≡ 0 = ap (λ (t : Bool). cond {A = ℕ} t (cap - f) 0) (ne_eqb a (a + suc i) (λ z. omega arith)) in
    let z : (a + 1) + i ≡ a + suc i = omega arith in
    let more = taken_here cap (a + 1) free i (omega arith) in
    let more' : at_node (a + suc i) (taken_from cap (a + 1) free) ≡ cap - get_or free i 0 = subst (λ (j : ℕ). at_node j (taken_from cap (a + 1) free) ≡ cap - get_or free i 0) z more in omega arith

pub taken_is : (cap : ℕ) (free : List ℕ) (i : ℕ) → i < length free → at_node i (taken_from cap 0 free) ≡ cap - get_or free i 0
taken_is cap free i inside = let z : 0 + i ≡ i = omega arith in subst (λ (j : ℕ). at_node j (taken_from cap 0 free) ≡ cap - get_or free i 0) z (taken_here cap 0 free i inside)

taken_after : (cap a : ℕ) (free : List ℕ) (j : ℕ) → a + length free ≤ j → at_node j (taken_from cap a free) ≡ 0
taken_after cap a [] j high = refl
taken_after cap a (f ∷ free) j high =
    let e : cond {A = ℕ} (eqb a j) (cap - f) 0 ≡ 0 = ap (λ (t : Bool). cond {A = ℕ} t (cap - f) 0) (ne_eqb a j (λ z. omega arith)) in
    let more = taken_after cap (a + 1) free j (omega arith) in omega arith

pub taken_beyond : (cap : ℕ) (free : List ℕ) (i : ℕ) → length free ≤ i → at_node i (taken_from cap 0 free) ≡ 0
taken_beyond cap free i high = taken_after cap 0 free i (omega arith)

-- at the start
pub starts : (store : Store) → store.capacity < 4294967296 → ((i : ℕ) → i < length store.free → get_or store.free i 0 ≤ store.capacity) → Kept store.capacity (opening store.free [] (first_view store))
starts store low within = record {
  low = low;
  sums = λ i inside. let t = taken_is store.capacity store.free i inside in let w = within i inside in omega arith;
}

-- at the end, with a seat
pub ends : (cap id : ℕ) (v : View) (ws : List ℕ) (xs : List (Unit {0})) → Final (Seen (Kept cap) id v) ws xs → (cap < 4294967296) × ((i : ℕ) → i < length ws → at_node i v.bytes ≤ cap)
ends cap id v ws xs final =
    let s = final.0 in
    let k = final.1.0 in
    let at = final.1.1 in
    let same : s.words ≡ ws = final.2 in (
      k.low,
      λ i inside.
          let l : length s.words ≡ length ws = ap length same in
          let o = k.sums i (omega arith) in
          let b = below_total (B i) s.views id v at in omega arith,
    )

pub one_same : (v w : View) → v ∷ [] ≡ w ∷ [] → v ≡ w
one_same v w e = cc
