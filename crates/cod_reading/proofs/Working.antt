-- Reads of columns, and the mark of one that failed.
use Rattle.std.proofs.Common.{◌≡◌, ◌≢◌, ℕ, zero, suc, ◌+◌, ◌<◌, ◌≤◌, List, [], ◌∷◌, ◌++◌, length, Bool, true, false, cond, if◌then◌else◌, Some, refl, sym, ap, ◌∙◌, subst, arith, inl, inr}
use Rattle.std.specs.Prelude.{◌&&◌, ◌==◌, nat_lt}
use Rattle.std.proofs.lemmas.Bool.{both_ways, cases_eq, cases_lt, eq-eqb, le-ltb, lt-ltb, ne_eqb}
use Rattle.std.proofs.lemmas.List.{length-append}
use Rattle.cod_types.specs.Faults.{bump}
use Rattle.cod_types.specs.Limits.{Shape}
use Rattle.cod_chronicle.specs.declared.entry.Cause.TheVariants.{Fault}
use Rattle.cod_chronicle.specs.declared.entry.Entry.{Entry}
use Rattle.cod_chronicle.specs.declared.entry.Entry.TheVariants.{Down}
use Rattle.cod_chronicle.specs.Said.{bytes_of, clock_of, next_stamp, numbers_by, StampFollows}
use Rattle.cod_chronicle.proofs.Growth.{bytes_of-push, numbers_same}
use Rattle.cod_seg.specs.Calls.{costs}
use Rattle.cod_seg.specs.Laws.{up_below}
use Rattle.cod_seg.specs.Seg.{Col, col_at, node_in, Seg, with_col}
use Rattle.cod_seg.specs.Sound.{is_frail, Sound}
use Rattle.cod_seg.specs.Steps.{KeepsColumn, Marks, marks, Works, works}
use Rattle.cod_seg.proofs.Keeping.{col_here, col_there, works_keep}
use Rattle.cod_seg.proofs.Falling.{marks_keep}
use Rattle.cod_repair.specs.Columns.{faults_at, was_read, were_read}
use Rattle.cod_repair.proofs.Reading.{were_read_rest}
use Rattle.cod_segment.specs.Events.{Counts}
use Rattle.cod_reading.specs.Reads.{Reads}
use Rattle.cod_reading.proofs.Chaining.{makes_more, makes_none, reads_as, reads_none, reads_then, up_same}

-- ---- one read

-- what a read leaves of a column
read_keeps : (g : Shape) (frail : List ℕ) (i faults : ℕ) (c : Col) (up : Bool) → ((held : List ℕ) → c.state.device.content ≡ Some held → length held ≡ c.state.device.size)
    → (up ≡ true → c.is_up ≡ true) → KeepsColumn g frail i c (record (was_read faults c) { is_up = up })
read_keeps g frail i faults c up full on = record {
  node = refl;
  owned = refl;
  shape = refl;
  tells = refl;
  never_fails = refl;
  full = full;
  fits = λ fits. fits;
  roomy = λ e roomy. roomy;
  long = λ low. refl;
  plain = λ low. refl;
  kept = λ high k. record { within = k.within; used = k.used; least = k.least; most = k.most; average = k.average; whole = k.whole };
  exact = λ high live e. e;
}

one_works : (s u : Seg) (i faults : ℕ) → Sound s → i < s.site.shape.n → faults ≡ faults_at s.cols i → u ≡ record s { cols = with_col s.cols i (was_read faults (col_at s.cols i)) } → Works i s u
one_works s u i faults sound below same becomes =
    let c = col_at s.cols i in
    record {
      column = was_read faults c;
      keeps = read_keeps s.site.shape s.frail i faults c c.is_up (sound.columns.each i below).full (λ up. up);
      live = refl;
      faults = same;
      blocks = λ low kept value h. record { held = h.held; told = h.told; each = h.each };
      parities = λ high v p h. let m = h.means in record {
        base = h.base;
        records = h.records;
        means = record { rest = m.rest; content = m.content; base_size = m.base_size; used = m.used; each = m.each; noted = m.noted };
        value_is = h.value_is;
        in_flight = h.in_flight;
      };
      becomes = becomes;
    }

-- a column in the place of one
at_place : (P : Col → Type 0) (cols : List Col) (i m : ℕ) (c : Col) → i < length cols → (m ≡ i → P c) → (m ≢ i → P (col_at cols m)) → P (col_at (with_col cols i c) m)
at_place P cols i m c below here there = elim (cases_eq m i) [
  | inl same ↦ rw same (rw (col_here cols i c below) (here same))
  | inr other ↦ rw (col_there cols i m c other) (there other)
]

one_count : (i m : ℕ) → m ≡ i → ◌≡◌ {A = ℕ} (cond (m == i) 1 0) 1
one_count i m e = ap (λ (b : Bool). cond b 1 0) (eq-eqb m i e)

no_count : (i m : ℕ) → m ≢ i → ◌≡◌ {A = ℕ} (cond (m == i) 1 0) 0
no_count i m e = ap (λ (b : Bool). cond b 1 0) (ne_eqb m i e)

pub read_one : (s u : Seg) (i faults t : ℕ) → Sound s → i < s.site.shape.n → faults ≡ faults_at s.cols i → u ≡ record s { cols = with_col s.cols i (was_read faults (col_at s.cols i)) }
    → Reads (λ m. if m == i then 1 else 0) t t s u
read_one s u i faults t sound below same becomes =
    let is = one_works s u i faults sound below same becomes in
    let c = col_at s.cols i in
    let size = sound.columns.size in
    let inside : i < length s.cols = omega (arith, size, below) in
    let cols : u.cols ≡ with_col s.cols i (was_read faults c) = ap (λ (x : Seg). x.cols) becomes in
    let log : u.log ≡ s.log = ap (λ (x : Seg). x.log) becomes in
    let up : (m : ℕ) → (col_at u.cols m).is_up ≡ (col_at s.cols m).is_up = λ m. rw cols
    (at_place (λ (x : Col). x.is_up ≡ (col_at s.cols m).is_up) s.cols i m (was_read faults c) inside (λ e. ap (λ (n : ℕ). (col_at s.cols n).is_up) (sym e)) (λ e. refl)) in
    record {
      makes = λ w r setting. makes_more w r t t t false s s u (makes_none w r t s) (works i below is) (record { clock = refl; goes_on = refl });
      sound = works_keep s u i below sound is;
      becomes = becomes ∙ rw (cols, log) refl;
      rooms = λ m. rw cols
          (at_place (λ (x : Col). x.room ≡ (col_at s.cols m).room) s.cols i m (was_read faults c) inside (λ e. ap (λ (n : ℕ). (col_at s.cols n).room) (sym e)) (λ e. refl));
      falls = λ m live. sym (up m) ∙ live;
      long = let n = up_same s.site.shape.n u.cols s.cols (λ m lt. up m) in let l = ap length log in omega (arith, n, l);
      numbers = λ who. ap (numbers_by who) log;
      bytes = ap (bytes_of s.site) log;
      counts = λ none m lt. rw cols
          (at_place (λ (x : Col). Counts (costs (cond (m == i) 1 0) 0) (col_at s.cols m).state.device x.state.device) s.cols i m (was_read faults c) inside
          (λ e. rw (one_count i m e) (ap (λ (n : ℕ). bump (col_at s.cols n).state.device.reads) (sym e), ap (λ (n : ℕ). (col_at s.cols n).state.device.writes) (sym e)))
          (λ e. rw (no_count i m e) (refl, refl)));
    }

-- ---- a read of each chosen column below m

abbrev below_count : (chosen : ℕ → Bool) (m i : ℕ) → ℕ
below_count chosen m i = cond (nat_lt i m && chosen i) 1 0

count_skip : (chosen : ℕ → Bool) (m i : ℕ) → chosen m ≡ false → below_count chosen (suc m) i ≡ below_count chosen m i
count_skip chosen m i not = elim (cases_eq i m) [
  | inl here ↦
      let e : chosen i ≡ false = ap chosen here ∙ not in
      rw e (by (nat_lt i (suc m)) (nat_lt i m))
  | inr other ↦ ap (λ (b : Bool). cond (b && chosen i) 1 0) (test_same m i other)
] where
  by : (a b : Bool) → ◌≡◌ {A = ℕ} (cond (a && false) 1 0) (cond (b && false) 1 0)
  by true true = refl
  by true false = refl
  by false true = refl
  by false false = refl

  test_same : (m i : ℕ) → i ≢ m → nat_lt i (suc m) ≡ nat_lt i m
  test_same m i other = elim (cases_lt i m) [
    | inl low ↦ lt-ltb i (suc m) (omega (arith, low)) ∙ sym (lt-ltb i m low)
    | inr from ↦ le-ltb i (suc m) (omega (arith, from, other)) ∙ sym (le-ltb i m from)
  ]

count_more : (chosen : ℕ → Bool) (m i : ℕ) → chosen m ≡ true → below_count chosen (suc m) i ≡ below_count chosen m i + cond (i == m) 1 0
count_more chosen m i is = elim (cases_eq i m) [
  | inl here ↦
      let e : chosen i ≡ true = ap chosen here ∙ is in
      rw (e, eq-eqb i m here, lt-ltb i (suc m) (omega (arith, here)), le-ltb i m (omega (arith, here))) refl
  | inr other ↦ elim (cases_lt i m) [
    | inl low ↦ rw (ne_eqb i m other, lt-ltb i (suc m) (omega (arith, low)), lt-ltb i m low) (omega arith)
    | inr from ↦ rw (ne_eqb i m other, le-ltb i (suc m) (omega (arith, from, other)), le-ltb i m from) (omega arith)
  ]
]

fetch_next : (chosen : ℕ → Bool) (s u : Seg) (m t : ℕ) → m < s.site.shape.n → Reads (below_count chosen m) t t s (record s { cols = were_read chosen s.cols m })
    → (b : Bool) → chosen m ≡ b → u ≡ record s { cols = cond b (with_col (were_read chosen s.cols m) m (was_read (faults_at s.cols m) (col_at s.cols m))) (were_read chosen s.cols m) }
    → Reads (below_count chosen (suc m)) t t s u
fetch_next chosen s u m t below before true e becomes =
    let v : Seg = record s { cols = were_read chosen s.cols m } in
    let at : col_at (were_read chosen s.cols m) m ≡ col_at s.cols m = were_read_rest chosen s.cols m m (omega arith) in
    let one = read_one v u m (faults_at s.cols m) t before.sound below (ap (λ (c : Col). c.state.device.faults) (sym at))
    (becomes ∙ ap (λ (c : Col). record s { cols = with_col (were_read chosen s.cols m) m (was_read (faults_at s.cols m) c) }) (sym at)) in
    reads_then (below_count chosen m) (λ (i : ℕ). cond (i == m) 1 0) (below_count chosen (suc m)) t t t s v u before one (λ same i lt. count_more chosen m i e)
fetch_next chosen s u m t below before false e becomes =
    reads_as (below_count chosen m) (below_count chosen (suc m)) t t s u (λ i lt. count_skip chosen m i e) (subst (Reads (below_count chosen m) t t s) (sym becomes) before)

pub fetched : (chosen : ℕ → Bool) (s : Seg) (m t : ℕ) → Sound s → m ≤ s.site.shape.n → (u : Seg) → u ≡ record s { cols = were_read chosen s.cols m }
    → Reads (λ i. if nat_lt i m && chosen i then 1 else 0) t t s u
fetched chosen s zero t sound most u becomes = reads_as (λ (i : ℕ). 0) (below_count chosen 0) t t s u (λ i lt. rw (le-ltb i 0 (omega arith)) refl) (rw becomes (reads_none t s sound))
fetched chosen s (suc m) t sound most u becomes =
    let v : Seg = record s { cols = were_read chosen s.cols m } in
    fetch_next chosen s u m t most (fetched chosen s m t sound (omega (arith, most)) v refl) (chosen m) refl becomes

-- ---- the mark

-- one fewer is up
fewer : (n : ℕ) (cols : List Col) (i : ℕ) (d : Col) → i < length cols → i < n → (col_at cols i).is_up ≡ true → d.is_up ≡ false → up_below n (with_col cols i d) + 1 ≡ up_below n cols
fewer zero cols i d inside below up down = absurd (omega (arith, below))
fewer (suc n) cols i d inside below up down = elim (cases_eq i n) [
  | inl here ↦
      let rest : up_below n (with_col cols i d) ≡ up_below n cols = up_same n (with_col cols i d) cols
      (λ m lt. ap (λ (c : Col). c.is_up) (col_there cols i m d (λ e. absurd (omega (arith, e, here, lt))))) in
      let now : (col_at (with_col cols i d) n).is_up ≡ false = ap (λ (m : ℕ). (col_at (with_col cols i d) m).is_up) (sym here) ∙ ap (λ (c : Col). c.is_up) (col_here cols i d inside) ∙ down in
      let was : (col_at cols n).is_up ≡ true = ap (λ (m : ℕ). (col_at cols m).is_up) (sym here) ∙ up in
      let a : ◌≡◌ {A = ℕ} (cond (col_at (with_col cols i d) n).is_up 1 0) 0 = ap (λ (b : Bool). cond b 1 0) now in
      let b : ◌≡◌ {A = ℕ} (cond (col_at cols n).is_up 1 0) 1 = ap (λ (b : Bool). cond b 1 0) was in
      omega (arith, rest, a, b)
  | inr other ↦
      let rest = fewer n cols i d inside (omega (arith, below, other)) up down in
      let same : ◌≡◌ {A = ℕ} (cond (col_at (with_col cols i d) n).is_up 1 0) (cond (col_at cols n).is_up 1 0) =
      ap (λ (c : Col). cond c.is_up 1 0) (col_there cols i n d (λ e. other (sym e))) in
      omega (arith, rest, same)
]

-- a column that is up, and whose node may fail
pub record MayFall (s : Seg) (i faults : ℕ) : Type 0 where
  pub below : i < s.site.shape.n
  pub up : (col_at s.cols i).is_up ≡ true
  pub some : 1 ≤ faults
  pub honest : is_frail s.frail (node_in (col_at s.cols i)) ≡ true

abbrev fallen : (faults : ℕ) → Col → Col
fallen faults c = record (was_read faults c) { is_up = false }

pub marked_down : (s u : Seg) (i faults t after : ℕ) → Sound s → MayFall s i faults → after ≡ next_stamp (clock_of s.log) t → StampFollows s.log after
    → u ≡ record s {
      cols = with_col s.cols i (record (was_read faults (col_at s.cols i)) { is_up = false });
      log = s.log ++ Down after i (col_at s.cols i).room.node (Fault faults) ∷ [];
    }
    → Reads (λ (m : ℕ). 0) t after s u × (up_below s.site.shape.n u.cols < up_below s.site.shape.n s.cols)
marked_down s u i faults t after sound may stamp follows becomes =
    let n = s.site.shape.n in
    let c = col_at s.cols i in
    let d = fallen faults c in
    let size = sound.columns.size in
    let low = may.below in
    let inside : i < length s.cols = omega (arith, size, low) in
    let e : Entry = Down after i c.room.node (Fault faults) in
    let cols : u.cols ≡ with_col s.cols i d = ap (λ (x : Seg). x.cols) becomes in
    let log : u.log ≡ s.log ++ e ∷ [] = ap (λ (x : Seg). x.log) becomes in
    let is : Marks i s u = record {
      column = d;
      stamp = after;
      cause = Fault faults;
      was = may.up;
      down = refl;
      keeps = read_keeps s.site.shape s.frail i faults c false (sound.columns.each i may.below).full (λ up. cc);
      why = (may.some, may.honest, refl);
      follows = follows;
      becomes = becomes;
    } in
    let less : up_below n u.cols + 1 ≡ up_below n s.cols = rw cols (fewer n s.cols i d inside may.below may.up refl) in
    let falls : (m : ℕ) → (col_at u.cols m).is_up ≡ true → (col_at s.cols m).is_up ≡ true = λ m. rw cols
    (at_place (λ (x : Col). x.is_up ≡ true → (col_at s.cols m).is_up ≡ true) s.cols i m d inside (λ at live. cc) (λ at live. live)) in (
      record {
        makes = λ w r setting. makes_more w r t t after false s s u (makes_none w r t s) (marks i may.below is)
            ((may.some, setting.may (node_in c) may.honest), record { stamp_is = stamp; clock = refl; goes_on = refl });
        sound = marks_keep s u i may.below sound is;
        becomes = becomes ∙ rw (cols, log) refl;
        rooms = λ m. rw cols (at_place (λ (x : Col). x.room ≡ (col_at s.cols m).room) s.cols i m d inside (λ at. ap (λ (k : ℕ). (col_at s.cols k).room) (sym at)) (λ at. refl));
        falls = falls;
        long = let l = ap length log ∙ length-append s.log (e ∷ []) in omega (arith, less, l);
        numbers = λ who. ap (numbers_by who) log ∙ numbers_same who s.log e refl;
        bytes = ap (bytes_of s.site) log ∙ bytes_of-push s.site s.log e;
        counts = λ none m lt.
            let live : (col_at u.cols i).is_up ≡ true = none i may.below may.up in
            let dead : (col_at u.cols i).is_up ≡ false = rw (cols, col_here s.cols i d inside) refl in
            absurd (both_ways (col_at u.cols i).is_up dead live);
      },
      omega (arith, less),
    )
