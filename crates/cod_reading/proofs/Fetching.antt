-- Bytes that are brought from columns, and what that leaves of the segment.
use Rattle.std.proofs.Common.{◌≡◌, ◌≢◌, ℕ, zero, suc, ◌+◌, ◌<◌, ◌≤◌, ◌^◌, List, [], ◌∷◌, ◌++◌, length, Bool, true, false, cond, Option, refl, sym, ap, ◌∙◌, subst, arith, inl, inr}
use Rattle.std.specs.Prelude.{◌&&◌, ◌==◌, nat_lt, is_some, Result, Ok, Err, MatchResult, OnOk}
use Rattle.std.proofs.lemmas.Bool.{both_ways, cases_Bool, cases_eq, eqb-true, eq-eqb, lt-ltb, ne_eqb}
use Rattle.std.proofs.lemmas.List.{length-set}
use Rattle.atomic_table.specs.Seated.{TableId}
use Rattle.cod_chronicle.specs.declared.entry.Cause.TheVariants.{Fault}
use Rattle.cod_chronicle.specs.declared.entry.Entry.TheVariants.{Down}
use Rattle.cod_chronicle.specs.Said.{clock_of, next_stamp, StampFollows}
use Rattle.cod_chronicle.proofs.Walking.{set_again}
use Rattle.cod_seg.specs.Calls.{block_reads, is_source}
use Rattle.cod_seg.specs.Laws.{up_below}
use Rattle.cod_seg.specs.Seg.{Col, col_at, node_in, Seg, with_col}
use Rattle.cod_seg.specs.Sound.{is_frail, Sound}
use Rattle.cod_seg.proofs.Keeping.{col_here, col_there}
use Rattle.cod_repair.specs.Columns.{failed_at, faults_at, IsTold, was_read, were_read}
use Rattle.cod_repair.specs.declared.columns.ColumnFailed.{ColumnFailed}
use Rattle.cod_repair.proofs.Choosing.{source_up}
use Rattle.cod_repair.proofs.Keeping.{were_read_at}
use Rattle.cod_repair.proofs.Reading.{length-were_read, were_read_rest}
use Rattle.cod_segment.specs.Views.{pools_by, told_by}
use Rattle.cod_reading.specs.Reads.{is_read_for, MayRead, Reads}
use Rattle.cod_reading.proofs.Chaining.{reads_as, reads_then}
use Rattle.cod_reading.proofs.Working.{fetched, marked_down, MayFall}

-- ---- one column alone

none_before : (chosen : ℕ → Bool) (cols : List Col) (j m : ℕ) → ((i : ℕ) → i ≢ j → chosen i ≡ false) → m ≤ j → were_read chosen cols m ≡ cols
none_before chosen cols j zero others low = refl
none_before chosen cols j (suc m) others low =
    let off : chosen m ≡ false = others m (λ e. absurd (omega (arith, low, e))) in
    ap (λ (b : Bool). cond b (with_col (were_read chosen cols m) m (was_read (faults_at cols m) (col_at cols m))) (were_read chosen cols m)) off
    ∙ none_before chosen cols j m others (omega (arith, low))

one_alone : (chosen : ℕ → Bool) (cols : List Col) (j m : ℕ) → chosen j ≡ true → ((i : ℕ) → i ≢ j → chosen i ≡ false) → j < m
    → were_read chosen cols m ≡ with_col cols j (was_read (faults_at cols j) (col_at cols j))
one_alone chosen cols j zero on others high = absurd (omega (arith, high))
one_alone chosen cols j (suc m) on others high = elim (cases_eq m j) [
  | inl here ↦
      let e : chosen m ≡ true = ap chosen here ∙ on in
      ap (λ (b : Bool). cond b (with_col (were_read chosen cols m) m (was_read (faults_at cols m) (col_at cols m))) (were_read chosen cols m)) e
      ∙ ap (λ (l : List Col). with_col l m (was_read (faults_at cols m) (col_at cols m))) (none_before chosen cols j m others (omega (arith, here)))
      ∙ ap (λ (x : ℕ). with_col cols x (was_read (faults_at cols x) (col_at cols x))) here
  | inr other ↦
      ap (λ (b : Bool). cond b (with_col (were_read chosen cols m) m (was_read (faults_at cols m) (col_at cols m))) (were_read chosen cols m)) (others m other)
      ∙ one_alone chosen cols j m on others (omega (arith, high, other))
]

own_here : (k : ℕ) (cols : List Col) (j : ℕ) → (col_at cols j).is_up ≡ true → is_read_for k cols j j ≡ true
own_here k cols j up = ap (λ (b : Bool). cond b (j == j) (is_source k cols j)) up ∙ eq-eqb j j refl

own_else : (k : ℕ) (cols : List Col) (j i : ℕ) → (col_at cols j).is_up ≡ true → i ≢ j → is_read_for k cols j i ≡ false
own_else k cols j i up other = ap (λ (b : Bool). cond b (j == i) (is_source k cols i)) up ∙ ne_eqb j i (λ e. other (sym e))

pub read_is : (r : Result (Unit {0}) ColumnFailed) (k n j : ℕ) (cols new : List Col) → (col_at cols j).is_up ≡ true → j < n
    → new ≡ with_col cols j (was_read (faults_at new j) (col_at cols j)) → IsTold j cols new r
    → MatchResult r (λ x. new ≡ were_read (is_read_for k cols j) cols n) (λ e. new ≡ failed_at (is_read_for k cols j) cols e.col e.count)
read_is (Ok x) k n j cols new up below same told =
    same ∙ ap (λ (f : ℕ). with_col cols j (was_read f (col_at cols j))) told.cause.kept
    ∙ sym (one_alone (is_read_for k cols j) cols j n (own_here k cols j up) (λ i other. own_else k cols j i up other) below)
read_is (Err e) k n j cols new up below same told =
    let before : were_read (is_read_for k cols j) cols j ≡ cols = none_before (is_read_for k cols j) cols j j (λ i other. own_else k cols j i up other) (omega arith) in
    same ∙ ap (λ (f : ℕ). with_col cols j (was_read f (col_at cols j))) (sym told.named.1) ∙ ap (λ (l : List Col). with_col l j (was_read e.count (col_at cols j))) (sym before)
    ∙ ap (λ (x : ℕ). failed_at (is_read_for k cols j) cols x e.count) (sym told.named.0)

-- ---- what is seen of the segment

-- whether these columns tell as the others, and their rooms are of the same pools
abbrev pub SeenAs : (cols other : List Col) → Type 0
SeenAs cols other = (told_by cols ≡ told_by other) × (pools_by cols ≡ pools_by other)

seen_one : (b : Bool) (f : ℕ) (c : Col) → (is_some (cond b (was_read f c) c).state.device.content ≡ is_some c.state.device.content) × ((cond b (was_read f c) c).room.of ≡ c.room.of)
seen_one true f c = (refl, refl)
seen_one false f c = (refl, refl)

pub were_seen : (chosen : ℕ → Bool) (cols : List Col) (m : ℕ) → m ≤ length cols → SeenAs (were_read chosen cols m) cols
were_seen chosen cols m within =
    let e = were_read_at chosen cols m 0 within in
    let o = seen_one (nat_lt 0 m && chosen 0) (faults_at cols 0) (col_at cols 0) in
    (ap (λ (c : Col). is_some c.state.device.content) e ∙ o.0, ap (λ (c : Col). c.room.of) e ∙ o.1)

pub failed_seen : (chosen : ℕ → Bool) (cols : List Col) (m f : ℕ) → m < length cols → SeenAs (failed_at chosen cols m f) cols
failed_seen chosen cols m f within =
    let size = length-were_read chosen cols m in
    let c = was_read f (col_at cols m) in
    elim (cases_eq 0 m) [
      | inl here ↦
          let e : col_at (failed_at chosen cols m f) 0 ≡ c = ap (λ (x : ℕ). col_at (failed_at chosen cols m f) x) here ∙ col_here (were_read chosen cols m) m c (omega (arith, size, within)) in (
            ap (λ (x : Col). is_some x.state.device.content) e ∙ ap (λ (x : ℕ). is_some (col_at cols x).state.device.content) (sym here),
            ap (λ (x : Col). x.room.of) e ∙ ap (λ (x : ℕ). (col_at cols x).room.of) (sym here),
          )
      | inr other ↦
          let e : col_at (failed_at chosen cols m f) 0 ≡ col_at (were_read chosen cols m) 0 = col_there (were_read chosen cols m) m 0 c other in
          let before = were_seen chosen cols m (omega (arith, within)) in
          (ap (λ (x : Col). is_some x.state.device.content) e ∙ before.0, ap (λ (x : Col). x.room.of) e ∙ before.1)
    ]

-- the segment with other columns, as it is seen
pub reseen : (s : Seg) (cols other : List Col) → told_by s.cols ≡ s.site.told → pools_by s.cols ≡ s.pools → cols ≡ other → SeenAs other s.cols
    → ◌≡◌ {A = Seg} (record s { site = record s.site { told = told_by cols }; pools = pools_by cols; cols = cols }) (record s { cols = other })
reseen s cols other told pools is seen =
    ap (λ (l : List Col). record s { site = record s.site { told = told_by l }; pools = pools_by l; cols = l }) is
    ∙ ap (λ (t : Bool). record s { site = record s.site { told = t }; pools = pools_by other; cols = other }) (seen.0 ∙ told)
    ∙ ap (λ (p : Option TableId). record s { pools = p; cols = other }) (seen.1 ∙ pools)

-- ---- the reads that were made

pub reads_for : (k : ℕ) (cols : List Col) (j i : ℕ) → ◌≡◌ {A = ℕ} (cond (is_read_for k cols j i) 1 0) (block_reads k cols j i)
reads_for k cols j i = by (col_at cols j).is_up where
  by : (u : Bool) → ◌≡◌ {A = ℕ} (cond (cond u (j == i) (is_source k cols i)) 1 0) (cond u (cond (j == i) 1 0) (cond (is_source k cols i) 1 0))
  by true = refl
  by false = refl

pub brought : (s u : Seg) (j t : ℕ) → Sound s → u ≡ record s { cols = were_read (is_read_for s.site.shape.k s.cols j) s.cols s.site.shape.n }
    → Reads (block_reads s.site.shape.k s.cols j) t t s u
brought s u j t sound becomes =
    let n = s.site.shape.n in
    let chosen = is_read_for s.site.shape.k s.cols j in
    reads_as (λ (i : ℕ). cond (nat_lt i n && chosen i) 1 0) (block_reads s.site.shape.k s.cols j) t t s u
    (λ i lt. sym (reads_for s.site.shape.k s.cols j i) ∙ ap (λ (b : Bool). cond (b && chosen i) 1 0) (sym (lt-ltb i n lt)))
    (fetched chosen s n t sound (omega arith) u becomes)

-- ---- a column that failed

chosen_up : (k : ℕ) (cols : List Col) (j i : ℕ) → is_read_for k cols j i ≡ true → (col_at cols i).is_up ≡ true
chosen_up k cols j i is = by (col_at cols j).is_up refl is where
  by : (u : Bool) → (col_at cols j).is_up ≡ u → cond u (j == i) (is_source k cols i) ≡ true → (col_at cols i).is_up ≡ true
  by true up e = ap (λ (x : ℕ). (col_at cols x).is_up) (sym (eqb-true j i e)) ∙ up
  by false down e = source_up k cols i e

some_up : (n : ℕ) (cols : List Col) (i : ℕ) → i < n → (col_at cols i).is_up ≡ true → 1 ≤ up_below n cols
some_up zero cols i below up = absurd (omega (arith, below))
some_up (suc n) cols i below up = elim (cases_eq i n) [
  | inl here ↦
      let e : ◌≡◌ {A = ℕ} (cond (col_at cols n).is_up 1 0) 1 = ap (λ (x : ℕ). cond (col_at cols x).is_up 1 0) (sym here) ∙ ap (λ (b : Bool). cond b 1 0) up in
      omega (arith, e)
  | inr other ↦ (let rest = some_up n cols i (omega (arith, below, other)) up in omega (arith, rest))
]

-- the column whose read failed, as it is then
pub record HasFailed (s v : Seg) (i count : ℕ) : Type 0 where
  pub within : i < length v.cols
  pub faults : faults_at v.cols i ≡ count
  pub up : (col_at v.cols i).is_up ≡ true
  pub room : length v.log + 1 < 2 ^ 63

pub has_failed : (s v : Seg) (j i count off n : ℕ) → MayRead s j off n → i < s.site.shape.n → is_read_for s.site.shape.k s.cols j i ≡ true
    → v ≡ record s { cols = failed_at (is_read_for s.site.shape.k s.cols j) s.cols i count } → HasFailed s v i count
has_failed s v j i count off n may below is becomes =
    let chosen = is_read_for s.site.shape.k s.cols j in
    let size = may.sound.columns.size in
    let same = length-were_read chosen s.cols i in
    let set_size = length-set (were_read chosen s.cols i) i (was_read count (col_at s.cols i)) in
    let cols : v.cols ≡ failed_at chosen s.cols i count = ap (λ (x : Seg). x.cols) becomes in
    let long = ap length cols in
    let at : col_at v.cols i ≡ was_read count (col_at s.cols i) =
    ap (λ (l : List Col). col_at l i) cols ∙ col_here (were_read chosen s.cols i) i (was_read count (col_at s.cols i)) (omega (arith, same, size, below)) in
    let up = chosen_up s.site.shape.k s.cols j i is in
    record {
      within = omega (arith, long, set_size, same, size, below);
      faults = ap (λ (c : Col). c.state.device.faults) at;
      up = ap (λ (c : Col). c.is_up) at ∙ up;
      room = let l = ap (λ (x : Seg). length x.log) becomes in let r = may.room in let m = some_up s.site.shape.n s.cols i below up in omega (arith, l, r, m);
    }

-- where a column went down the counts say nothing
pub quiet_then : (count : ℕ → ℕ) (t mid after : ℕ) (s v u : Seg) → Reads count t mid s v → Reads (λ x. 0) mid after v u → (i : ℕ) → i < s.site.shape.n → (col_at s.cols i).is_up ≡ true
    → (col_at u.cols i).is_up ≡ false → Reads (λ x. 0) t after s u
quiet_then count t mid after s v u one two i below up down =
    let both = reads_then count (λ (x : ℕ). 0) (λ (x : ℕ). count x + 0) t mid after s v u one two (λ same x lt. refl) in
    record {
      makes = both.makes;
      sound = both.sound;
      becomes = both.becomes;
      rooms = both.rooms;
      falls = both.falls;
      long = both.long;
      numbers = both.numbers;
      bytes = both.bytes;
      counts = λ none x lt. absurd (both_ways (col_at u.cols i).is_up down (none i below up));
    }

fallen_down : (u s before : Seg) (i count after : ℕ) (chosen : ℕ → Bool) → i < length before.cols → u ≡ record before {
  cols = with_col before.cols i (record (was_read count (col_at before.cols i)) { is_up = false });
  log = before.log ++ Down after i (col_at before.cols i).room.node (Fault count) ∷ [];
} → (col_at u.cols i).is_up ≡ false
fallen_down u s before i count after chosen inside becomes =
    ap (λ (x : Seg). (col_at x.cols i).is_up) becomes ∙ ap (λ (c : Col). c.is_up) (col_here before.cols i (record (was_read count (col_at before.cols i)) { is_up = false }) inside)

pub failed_down : (s v u : Seg) (j i count off n t after : ℕ) → MayRead s j off n → i < s.site.shape.n → is_read_for s.site.shape.k s.cols j i ≡ true → 1 ≤ count
    → v ≡ record s { cols = failed_at (is_read_for s.site.shape.k s.cols j) s.cols i count }
    → (col_at v.cols i).state.device.never_fails ≡ false
    → after ≡ next_stamp (clock_of v.log) t → StampFollows v.log after
    → u ≡ record v {
      cols = with_col v.cols i (record (col_at v.cols i) { is_up = false });
      log = v.log ++ Down after i (col_at v.cols i).room.node (Fault count) ∷ [];
    }
    → Reads (λ x. 0) t after s u × (up_below s.site.shape.n u.cols < up_below s.site.shape.n s.cols)
failed_down s v u j i count off n t after may below is some was fails stamp follows becomes =
    let k = s.site.shape.k in
    let chosen = is_read_for k s.cols j in
    let before : Seg = record s { cols = were_read chosen s.cols i } in
    let c = was_read count (col_at s.cols i) in
    let size = may.sound.columns.size in
    let same = length-were_read chosen s.cols i in
    let inside : i < length (were_read chosen s.cols i) = omega (arith, same, size, below) in
    let old : col_at (were_read chosen s.cols i) i ≡ col_at s.cols i = were_read_rest chosen s.cols i i (omega arith) in
    let cols : v.cols ≡ failed_at chosen s.cols i count = ap (λ (x : Seg). x.cols) was in
    let at : col_at v.cols i ≡ c = ap (λ (l : List Col). col_at l i) cols ∙ col_here (were_read chosen s.cols i) i c inside in
    let log : v.log ≡ s.log = ap (λ (x : Seg). x.log) was in
    let up = chosen_up k s.cols j i is in
    let first = fetched chosen s i t may.sound (omega (arith, below)) before refl in
    let honest : is_frail s.frail (node_in (col_at s.cols i)) ≡ true = elim (cases_Bool (is_frail s.frail (node_in (col_at s.cols i)))) [
      | inl frail ↦ frail
      | inr not ↦ absurd (both_ways (col_at s.cols i).state.device.never_fails (sym (ap (λ (x : Col). x.state.device.never_fails) at) ∙ fails) ((may.sound.columns.each i below).sure not))
    ] in
    let fall : MayFall before i count = record {
      below = below;
      up = ap (λ (x : Col). x.is_up) old ∙ up;
      some = some;
      honest = ap (λ (x : Col). is_frail s.frail (node_in x)) old ∙ honest;
    } in
    let end : u ≡ record before {
      cols = with_col before.cols i (record (was_read count (col_at before.cols i)) { is_up = false });
      log = before.log ++ Down after i (col_at before.cols i).room.node (Fault count) ∷ [];
    } =
    becomes
    ∙ ap (λ (x : Seg). record x {
      cols = with_col x.cols i (record (col_at x.cols i) { is_up = false });
      log = x.log ++ Down after i (col_at x.cols i).room.node (Fault count) ∷ [];
    }) was
    ∙ ap (λ (x : Col). record s {
      cols = with_col (failed_at chosen s.cols i count) i (record x { is_up = false });
      log = s.log ++ Down after i x.room.node (Fault count) ∷ [];
    }) (col_here (were_read chosen s.cols i) i c inside)
    ∙ ap (λ (l : List Col). record s { cols = l; log = s.log ++ Down after i c.room.node (Fault count) ∷ [] })
    (set_again (were_read chosen s.cols i) i c (record c { is_up = false }))
    ∙ ap (λ (x : Col). record s {
      cols = with_col (were_read chosen s.cols i) i (record (was_read count x) { is_up = false });
      log = s.log ++ Down after i x.room.node (Fault count) ∷ [];
    }) (sym old) in
    let second = marked_down before u i count t after first.sound fall (stamp ∙ ap (λ (l : _). next_stamp (clock_of l) t) log) (subst (λ (l : _). StampFollows l after) log follows) end in
    let fewer : up_below s.site.shape.n u.cols < up_below s.site.shape.n before.cols = second.1 in
    let long = first.long in (
      quiet_then (λ (x : ℕ). cond (nat_lt x i && chosen x) 1 0) t t after s before u first second.0 i below up (fallen_down u s before i count after chosen inside end),
      omega (arith, fewer, long),
    )

-- what comes of a result that is well
pub on_ok : {T E P Q : Type 0} (r : Result T E) → OnOk r P → (P → Q) → OnOk r Q
on_ok (Ok x) p f = f p
on_ok (Err e) p f = p
