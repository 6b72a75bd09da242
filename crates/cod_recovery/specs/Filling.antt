-- What a piece of a rebuild leaves.
use Rattle.std.specs.Prelude.{◌≡◌, ◌⊎◌, ◌+◌, ◌<◌, ℕ, true, false, List, [], ◌∷◌, ◌++◌, length, slice_index, slice_index_or, slice_set, Option, Some, None, option_and_then}
use Rattle.cod_types.specs.Faults.{bump, Rose}
use Rattle.cod_chronicle.specs.declared.entry.Cause.TheVariants.{Fault}
use Rattle.cod_chronicle.specs.declared.entry.Entry.TheVariants.{Down}
use Rattle.cod_chronicle.specs.Said.{bytes_of, clock_of, next_stamp, StampFollows}
use Rattle.cod_code.specs.Segments.{column_byte}
use Rattle.cod_repair.specs.Columns.{faults_at, failed_at, is_source, were_read}
use Rattle.cod_seg.specs.Seg.{Col, col_at, node_in, Rebuilding, Seg, Target, with_col}
use Rattle.cod_seg.specs.Sound.{is_frail}
use Rattle.cod_seg.specs.Steps.{filled_with}

-- the target of a rebuild in progress
abbrev pub target_in : Option Rebuilding → Option Target
target_in o = option_and_then (λ (r : Rebuilding). r.target) o

-- the target has these bytes more, by one write
abbrev pub IsFilledBy : (piece : List ℕ) (t : Target) (old new : Rebuilding) → Type 0
IsFilledBy piece t old new = new ≡ record old { target = Some (filled_with piece (bump t.device.writes) t) }

-- the target's region failed: its node is broken, with its count of faults, and it is let go
pub record IsBrokenOff (t : Target) (old new : Rebuilding) : Type 0 where
  pub faults : ℕ
  pub rose : Rose t.device.faults faults
  pub unsure : t.device.never_fails ≡ true → ⊥
  pub broke : slice_index_or new.broken t.room.node.0 None ≡ Some faults
  pub becomes : new ≡ record old { broken = slice_set old.broken t.room.node.0 (Some faults); target = None }

-- the columns after one read on each source
abbrev pub sources_read : Seg → List Col
sources_read s = were_read (is_source s.site.shape.k s.cols) s.cols s.site.shape.n

-- the same up to one whose read failed, and now has so many faults
abbrev pub source_failed : Seg → (col count : ℕ) → List Col
source_failed s col count = failed_at (is_source s.site.shape.k s.cols) s.cols col count

-- the bytes are those of a column from a place on
abbrev pub AreBytesOf : (s : Seg) (col off : ℕ) (bytes : List ℕ) → Type 0
AreBytesOf s col off bytes = (y : ℕ) → y < length bytes → slice_index bytes y ≡ column_byte s.site.shape.k s.site.shape.block col (bytes_of s.site s.log) (off + y)

-- The sources were read, and the target has the bytes, or it is let go.
pub record IsBrought (piece : List ℕ) (r : Rebuilding) (t : Target) (s u : Seg) : Type 0 where
  pub q : Rebuilding
  pub each : s.site.told ≡ true → AreBytesOf s r.col t.filled piece
  pub fills : IsFilledBy piece t r q ⊎ IsBrokenOff t r q
  pub becomes : u ≡ record s { cols = sources_read s; rebuild = Some q }

-- a source has failed, and so many times by now
pub record IsFailing (s : Seg) (col count : ℕ) : Type 0 where
  pub below : col < s.site.shape.n
  pub source : is_source s.site.shape.k s.cols col ≡ true
  pub rose : Rose (faults_at s.cols col) count

-- A source failed, and is down.
pub record IsStopped (t after : ℕ) (s u : Seg) : Type 0 where
  pub col : ℕ
  pub count : ℕ
  pub fails : IsFailing s col count
  pub frail : is_frail s.frail (node_in (col_at s.cols col)) ≡ true
  pub clock : after ≡ next_stamp (clock_of s.log) t
  pub follows : StampFollows s.log after
  pub becomes : u ≡ record s {
    cols = with_col (source_failed s col count) col (record (col_at (source_failed s col count) col) { is_up = false });
    log = s.log ++ Down after col (col_at (source_failed s col count) col).room.node (Fault count) ∷ [];
  }

-- one of both, and where no entry is made the caller's clock stays
abbrev pub IsFetched : (piece : List ℕ) (r : Rebuilding) (g : Target) (t after : ℕ) (s u : Seg) → Type 0
IsFetched piece r g t after s u = (IsBrought piece r g s u × (after ≡ t)) ⊎ IsStopped t after s u
