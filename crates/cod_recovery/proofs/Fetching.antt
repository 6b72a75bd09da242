-- What comes of the read sources.
use Rattle.std.proofs.Common.{◌≡◌, ◌⊎◌, ℕ, ◌<◌, List, [], ◌∷◌, ◌++◌, length, Bool, true, false, Option, Some, refl, sym, ap, ◌∙◌, subst, arith, length-set}
use Rattle.cod_chronicle.specs.declared.entry.Cause.TheVariants.{Fault}
use Rattle.cod_chronicle.specs.declared.entry.Entry.TheVariants.{Down}
use Rattle.cod_chronicle.specs.Said.{clock_of, next_stamp, StampFollows}
use Rattle.cod_repair.specs.Columns.{is_source, state_at, was_read, were_read}
use Rattle.cod_repair.proofs.Choosing.{source_up}
use Rattle.cod_repair.proofs.Reading.{length-were_read}
use Rattle.cod_seg.specs.Seg.{Col, col_at, node_in, Rebuilding, Seg, Target, with_col}
use Rattle.cod_seg.specs.Sound.{is_frail, Sound}
use Rattle.cod_seg.proofs.Keeping.{col_here}
use Rattle.cod_recovery.specs.Filling.{AreBytesOf, IsBrokenOff, IsBrought, IsFailing, IsFilledBy, IsStopped, source_failed, sources_read}

-- ---- a source that failed

pub length_failed : (s : Seg) (col count : ℕ) → length (source_failed s col count) ≡ length s.cols
length_failed s col count =
    length-set (were_read (is_source s.site.shape.k s.cols) s.cols col) col (was_read count (col_at s.cols col)) ∙ length-were_read (is_source s.site.shape.k s.cols) s.cols col

pub failed_below : (s x : Seg) (col count : ℕ) → x ≡ record s { cols = source_failed s col count } → Sound s → IsFailing s col count → col < length x.cols
failed_below s x col count same sound fails =
    let long : length x.cols ≡ length s.cols = ap (λ (z : Seg). length z.cols) same ∙ length_failed s col count in
    let size = sound.columns.size in
    let below = fails.below in
    omega (arith, long, size, below)

pub at_failed : (s : Seg) (col count : ℕ) → Sound s → IsFailing s col count → col_at (source_failed s col count) col ≡ was_read count (col_at s.cols col)
at_failed s col count sound fails =
    let long = length-were_read (is_source s.site.shape.k s.cols) s.cols col in
    let size = sound.columns.size in
    let below = fails.below in
    col_here (were_read (is_source s.site.shape.k s.cols) s.cols col) col (was_read count (col_at s.cols col)) (omega (arith, long, size, below))

pub failed_is : (s x : Seg) (col count : ℕ) → x ≡ record s { cols = source_failed s col count } → Sound s → IsFailing s col count
    → col_at x.cols col ≡ was_read count (col_at s.cols col)
failed_is s x col count same sound fails = ap (λ (z : Seg). col_at z.cols col) same ∙ at_failed s col count sound fails

pub failed_up : (s x : Seg) (col count : ℕ) → x ≡ record s { cols = source_failed s col count } → Sound s → IsFailing s col count → (col_at x.cols col).is_up ≡ true
failed_up s x col count same sound fails =
    ap (λ (c : Col). c.is_up) (failed_is s x col count same sound fails) ∙ source_up s.site.shape.k s.cols col fails.source

-- its node is one where the shelf may fail
failed_frail : (s x : Seg) (col count : ℕ) → x ≡ record s { cols = source_failed s col count } → Sound s → IsFailing s col count
    → ((state_at x.cols col).device.never_fails ≡ true → (state_at x.cols col).device.faults ≡ 0) → is_frail s.frail (node_in (col_at s.cols col)) ≡ true
failed_frail s x col count same sound fails reliable = by (is_frail s.frail (node_in (col_at s.cols col))) refl where
  here : col_at x.cols col ≡ was_read count (col_at s.cols col)
  here = failed_is s x col count same sound fails

  by : (b : Bool) → is_frail s.frail (node_in (col_at s.cols col)) ≡ b → is_frail s.frail (node_in (col_at s.cols col)) ≡ true
  by true e = e
  by false e =
      let never : (state_at x.cols col).device.never_fails ≡ true = ap (λ (c : Col). c.state.device.never_fails) here ∙ (sound.columns.each col fails.below).sure e in
      let none : count ≡ 0 = sym (ap (λ (c : Col). c.state.device.faults) here) ∙ reliable never in
      let rose = fails.rose in
      absurd (omega (arith, none, rose))

pub stopped : (s x m u : Seg) (col count t after : ℕ) → x ≡ m → m ≡ record s { cols = source_failed s col count } → Sound s → IsFailing s col count
    → ((state_at x.cols col).device.never_fails ≡ true → (state_at x.cols col).device.faults ≡ 0)
    → after ≡ next_stamp (clock_of m.log) t → StampFollows m.log after
    → u ≡ record m {
      cols = with_col m.cols col (record (col_at m.cols col) { is_up = false });
      log = m.log ++ Down after col (col_at m.cols col).room.node (Fault count) ∷ [];
    }
    → IsStopped t after s u
stopped s x m u col count t after seen same sound fails reliable clock follows becomes = record {
  col = col;
  count = count;
  fails = fails;
  frail = failed_frail s x col count (seen ∙ same) sound fails reliable;
  clock = clock ∙ ap (λ (z : Seg). next_stamp (clock_of z.log) t) same;
  follows = subst (λ (z : Seg). StampFollows z.log after) same follows;
  becomes = becomes ∙ ap (λ (z : Seg). record z {
    cols = with_col z.cols col (record (col_at z.cols col) { is_up = false });
    log = z.log ++ Down after col (col_at z.cols col).room.node (Fault count) ∷ [];
  }) same;
}

-- ---- all were read

-- the rebuild is as it was
pub still_rebuilt : (s x m : Seg) (cols : List Col) (r : Rebuilding) → x ≡ m → m ≡ record s { cols = cols } → s.rebuild ≡ Some r → x.rebuild ≡ Some r
still_rebuilt s x m cols r seen same was = ap (λ (z : Seg). z.rebuild) seen ∙ ap (λ (z : Seg). z.rebuild) same ∙ was

pub brought : (s x m : Seg) (r : Rebuilding) (t : Target) (piece : List ℕ) (col off : ℕ) (left : Option Rebuilding) → x ≡ m → m ≡ record s { cols = sources_read s }
    → (s.site.told ≡ true → AreBytesOf s col off piece) → (col ≡ r.col) × (off ≡ t.filled)
    → (q : Rebuilding) × (left ≡ Some q) × (IsFilledBy piece t r q ⊎ IsBrokenOff t r q) → IsBrought piece r t s (record x { rebuild = left })
brought s x m r t piece col off left seen same bytes aim fills = record {
  q = fills.0;
  each = λ told. subst (λ (i : ℕ). AreBytesOf s i t.filled piece) aim.0 (subst (λ (n : ℕ). AreBytesOf s col n piece) aim.1 (bytes told));
  fills = fills.2;
  becomes = ap (λ (z : Seg). record z { rebuild = left }) (seen ∙ same) ∙ ap (λ (o : Option Rebuilding). record s { cols = sources_read s; rebuild = o }) fills.1;
}
