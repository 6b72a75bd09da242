-- The sources of a piece are read.
use Rattle.std.proofs.Common.{◌≡◌, ◌⊎◌, inl, inr, ℕ, zero, suc, ◌+◌, ◌<◌, ◌≤◌, List, drop, length, get_or, Bool, true, false, cond, Option, refl, sym, ap, ◌∙◌, subst, arith}
use Rattle.std.specs.Prelude.{IfErr, MatchResult, OnOk, Result, Ok, Err}
use Rattle.atomic_table.specs.Seated.{TableId}
use Rattle.std.proofs.lemmas.Bool.{cases_lt}
use Rattle.std.proofs.lemmas.List.{get_or-drop, get_or-take}
use Rattle.std.proofs.lemmas.Result.{on_ok_weaker}
use Rattle.cod_types.specs.Faults.{Rose}
use Rattle.cod_types.specs.Limits.{Shape}
use Rattle.cod_types.specs.Plain.{bytes_at}
use Rattle.cod_types.specs.declared.call.Call.TheVariants.{Merge}
use Rattle.cod_code.specs.Segments.{column, column_byte}
use Rattle.cod_code.proofs.Segments.{column_at}
use Rattle.cod_chronicle.specs.Event.{Request, Setting}
use Rattle.cod_chronicle.specs.Said.{bytes_of, is_over}
use Rattle.cod_parity.proofs.Rooms.{floor_least}
use Rattle.cod_parity.specs.State.{IsKept, State}
use Rattle.cod_region.specs.Device.{Device}
use Rattle.cod_repair.specs.Columns.{failed_at, faults_at, HasValue, is_source, was_read, were_read}
use Rattle.cod_repair.specs.declared.columns.ColumnFailed.{ColumnFailed}
use Rattle.cod_repair.specs.Pieces.{AreOf, kept_byte}
use Rattle.cod_repair.proofs.Choosing.{past_up, source_up}
use Rattle.cod_repair.proofs.Reading.{were_read_rest}
use Rattle.cod_seg.specs.Seg.{Col, col_at, Seg, with_col}
use Rattle.cod_seg.specs.Sound.{IsColumn, Sound}
use Rattle.cod_seg.specs.Steps.{KeepsColumn, Works, works}
use Rattle.cod_seg.proofs.Going.{goes_keep}
use Rattle.cod_seg.proofs.Living.{have_values}
use Rattle.cod_segment.specs.Events.{Makes}
use Rattle.cod_segment.proofs.Answering.{calm_setting}
use Rattle.cod_segment.specs.Views.{pools_by, told_by}
use Rattle.cod_recovery.specs.Filling.{AreBytesOf, source_failed, sources_read}
use Rattle.cod_recovery.proofs.Losses.{more, nothing_made}
use Rattle.cod_recovery.proofs.Views.{pools_is, pools_with, told_is, told_with}

-- ---- what they hold

kept_some : (c : State) → IsKept c → 0 < c.size
kept_some c kept =
    let least = kept.least in
    let room = floor_least c.shape kept.within in
    let update = kept.within.some_update in
    omega (arith, least, room, update)

-- each source has at the cut the bytes of its column
pub sources_hold : (s : Seg) → Sound s → s.site.told ≡ true → is_over s.site s.log ≡ false
    → AreOf s.site.shape.k s.site.shape.block (bytes_of s.site s.log) s.claims s.cuts s.cols
sources_hold s sound told few i source = by (cases_lt i s.site.shape.n) (cases_lt i s.site.shape.k) where
  up : (col_at s.cols i).is_up ≡ true
  up = source_up s.site.shape.k s.cols i source

  by : (i < s.site.shape.n) ⊎ (s.site.shape.n ≤ i) → (i < s.site.shape.k) ⊎ (s.site.shape.k ≤ i)
      → HasValue (col_at s.cols i) s.cuts (kept_byte s.claims i) (column_byte s.site.shape.k s.site.shape.block i (bytes_of s.site s.log))
  by (inl below) (inl low) = record {
    block = λ none. (have_values s i sound told few).0 low up;
    parity = λ some. absurd (let bare = ap (λ (x : State). x.size) ((sound.columns.each i below).plain low) in omega (arith, bare, some));
  }
  by (inl below) (inr high) = record {
    block = λ none. absurd (let some = kept_some (col_at s.cols i).state ((sound.columns.each i below).reserve high) in omega (arith, none, some));
    parity = λ some. (have_values s i sound told few).1 high below up;
  }
  by (inr past) other =
      let size = sound.columns.size in
      let down = past_up s.cols i (omega (arith, size, past)) in
      let wrong : false ≡ true = sym down ∙ up in absurd (let no_way : ⊥ = cc in no_way)

-- so what was made of them is the column
pub bytes_made : {E : Type 0} (s : Seg) (col off n : ℕ) (into : List ℕ) (result : Result (Unit {0}) E) → off + n ≤ s.site.shape.block → length into ≡ n
    → OnOk result (into ≡ bytes_at (column s.site.shape.k s.site.shape.block col (bytes_of s.site s.log)) off n) → OnOk result (AreBytesOf s col off into)
bytes_made s col off n into result inside long made = on_ok_weaker result (λ is y lt.
    ap (λ (l : List ℕ). get_or l y 0) is
    ∙ get_or-take n (drop off (column s.site.shape.k s.site.shape.block col (bytes_of s.site s.log))) y 0 (omega (arith, long, lt))
    ∙ get_or-drop off (column s.site.shape.k s.site.shape.block col (bytes_of s.site s.log)) y 0
    ∙ column_at s.site.shape.k s.site.shape.block col (bytes_of s.site s.log) (off + y) (omega (arith, inside, long, lt))) made

-- ---- each read is a step

read_device : (d : Device) (faults : ℕ) → Device
read_device d faults = record d { faults = faults }

-- whatever its count of faults is then
pub read_keeps : (s : Seg) (i faults : ℕ) → IsColumn s.site s.frail s.pools s.log i (col_at s.cols i) → KeepsColumn s.site.shape s.frail i (col_at s.cols i) (was_read faults (col_at s.cols i))
read_keeps s i faults is = record {
  node = refl;
  owned = refl;
  shape = refl;
  tells = refl;
  never_fails = refl;
  full = is.full;
  fits = λ fits. fits;
  roomy = λ none room. room;
  long = λ low. refl;
  plain = λ low. refl;
  kept = λ high kept. record { within = kept.within; used = kept.used; least = kept.least; most = kept.most; average = kept.average; whole = kept.whole };
  exact = λ high up size. size;
}

read_works : (s u : Seg) (i : ℕ) → IsColumn s.site s.frail s.pools s.log i (col_at s.cols i) → u ≡ record s { cols = with_col s.cols i (was_read (faults_at s.cols i) (col_at s.cols i)) }
    → Works i s u
read_works s u i is becomes = record {
  column = was_read (faults_at s.cols i) (col_at s.cols i);
  keeps = read_keeps s i (faults_at s.cols i) is;
  live = refl;
  faults = refl;
  blocks = λ low kept value has. record { held = has.held; told = has.told; each = has.each };
  parities = λ high v p holds. let m = holds.means in record {
    base = holds.base;
    records = holds.records;
    means = record { rest = m.rest; content = m.content; base_size = m.base_size; used = m.used; each = m.each; noted = m.noted };
    value_is = holds.value_is;
    in_flight = holds.in_flight;
  };
  becomes = becomes;
}

abbrev pub read_seg : (chosen : ℕ → Bool) → Seg → ℕ → Seg
read_seg chosen s m = record s { cols = were_read chosen s.cols m }

one_read_more : (w : Setting) (r : Request) (t : ℕ) (chosen : ℕ → Bool) (s : Seg) (m : ℕ) → m < s.site.shape.n → Sound s → Makes w r t t false s (read_seg chosen s m)
    → Makes w r t t false s (read_seg chosen s (suc m))
one_read_more w r t chosen s m within sound before = by (chosen m) where
  mid : Sound (read_seg chosen s m)
  mid = goes_keep s (read_seg chosen s m) sound before.steps

  after : Seg
  after = record s { cols = with_col (were_read chosen s.cols m) m (was_read (faults_at s.cols m) (col_at s.cols m)) }

  same : col_at (were_read chosen s.cols m) m ≡ col_at s.cols m
  same = were_read_rest chosen s.cols m m (omega arith)

  next : after ≡ record (read_seg chosen s m) { cols = with_col (were_read chosen s.cols m) m (was_read (faults_at (were_read chosen s.cols m) m) (col_at (were_read chosen s.cols m) m)) }
  next = ap (λ (c : Col). record s { cols = with_col (were_read chosen s.cols m) m (was_read c.state.device.faults c) }) (sym same)

  by : (b : Bool) → Makes w r t t false s (record s { cols = cond b (with_col (were_read chosen s.cols m) m (was_read (faults_at s.cols m) (col_at s.cols m))) (were_read chosen s.cols m) })
  by true = more w r t t t false s (read_seg chosen s m) after before
      (works m within (read_works (read_seg chosen s m) after m (mid.columns.each m within) next))
      (record { clock = refl; goes_on = refl })
  by false = before

pub reads_made : (w : Setting) (r : Request) (t : ℕ) (chosen : ℕ → Bool) (s : Seg) (m : ℕ) → m ≤ s.site.shape.n → Sound s → Makes w r t t false s (read_seg chosen s m)
reads_made w r t chosen s zero within sound = nothing_made w r t s s refl
reads_made w r t chosen s (suc m) within sound = one_read_more w r t chosen s m (omega (arith, within)) sound (reads_made w r t chosen s m (omega (arith, within)) sound)

pub sound_read : (chosen : ℕ → Bool) (s : Seg) (m : ℕ) → m ≤ s.site.shape.n → Sound s → Sound (read_seg chosen s m)
sound_read chosen s m within sound =
    goes_keep s (read_seg chosen s m) sound (reads_made (calm_setting s) (record { caller = 0; number = 0; call = Merge }) 0 chosen s m within sound).steps

-- ---- what is seen through the first column

-- the segment with these columns, as it is seen
abbrev pub seen_reading : Seg → List Col → Seg
seen_reading s cols = record s { site = record s.site { told = told_by cols }; pools = pools_by cols; cols = cols }

seen_is : (s : Seg) (cols now : List Col) → cols ≡ now → told_by now ≡ s.site.told → pools_by now ≡ s.pools → seen_reading s cols ≡ record s { cols = now }
seen_is s cols now same told pools =
    ap (seen_reading s) same ∙ ap (λ (b : Bool). record s { site = record s.site { told = b }; pools = pools_by now; cols = now }) told
    ∙ ap (λ (o : Option TableId). record s { pools = o; cols = now }) pools

read_seen : (chosen : ℕ → Bool) (s : Seg) (cols : List Col) → Sound s → cols ≡ were_read chosen s.cols s.site.shape.n
    → seen_reading s cols ≡ record s { cols = were_read chosen s.cols s.site.shape.n }
read_seen chosen s cols sound same =
    let now = sound_read chosen s s.site.shape.n (omega arith) sound in
    seen_is s cols (were_read chosen s.cols s.site.shape.n) same (told_is (read_seg chosen s s.site.shape.n) now) (pools_is (read_seg chosen s s.site.shape.n) now)

failed_seen : (chosen : ℕ → Bool) (s : Seg) (cols : List Col) (m count : ℕ) → Sound s → m < s.site.shape.n → cols ≡ failed_at chosen s.cols m count
    → seen_reading s cols ≡ record s { cols = failed_at chosen s.cols m count }
failed_seen chosen s cols m count sound below same =
    let mid = sound_read chosen s m (omega (arith, below)) sound in
    let is = sound.columns.each m below in
    seen_is s cols (failed_at chosen s.cols m count) same (told_with (read_seg chosen s m) m (was_read count (col_at s.cols m)) mid is.tells)
    (pools_with (read_seg chosen s m) m (was_read count (col_at s.cols m)) mid is.owned)

-- as it is told of another name of the segment and of its geometry
pub reads_given : (s x : Seg) (b : Shape) (cols : List Col) (result : Result (Unit {0}) ColumnFailed) → x ≡ s → b ≡ s.site.shape → Sound s
    → MatchResult result (λ y. cols ≡ were_read (is_source b.k x.cols) x.cols b.n) (λ e. cols ≡ failed_at (is_source b.k x.cols) x.cols e.col e.count)
    → IfErr result (λ e. (e.col < b.n) × (is_source b.k x.cols e.col ≡ true) × Rose (faults_at x.cols e.col) e.count)
    → MatchResult result (λ y. seen_reading x cols ≡ record s { cols = sources_read s }) (λ e. seen_reading x cols ≡ record s { cols = source_failed s e.col e.count })
reads_given s x b cols (Ok y) same shape sound reads fails =
    let now : cols ≡ sources_read s = subst (λ (z : Seg). cols ≡ were_read (is_source s.site.shape.k z.cols) z.cols s.site.shape.n) same
    (subst (λ (h : Shape). cols ≡ were_read (is_source h.k x.cols) x.cols h.n) shape reads) in
    ap (λ (z : Seg). seen_reading z cols) same ∙ read_seen (is_source s.site.shape.k s.cols) s cols sound now
reads_given s x b cols (Err e) same shape sound reads fails =
    let now : cols ≡ source_failed s e.col e.count = subst (λ (z : Seg). cols ≡ failed_at (is_source s.site.shape.k z.cols) z.cols e.col e.count) same
    (subst (λ (h : Shape). cols ≡ failed_at (is_source h.k x.cols) x.cols e.col e.count) shape reads) in
    ap (λ (z : Seg). seen_reading z cols) same ∙ failed_seen (is_source s.site.shape.k s.cols) s cols e.col e.count sound (subst (λ (h : Shape). e.col < h.n) shape fails.0) now
