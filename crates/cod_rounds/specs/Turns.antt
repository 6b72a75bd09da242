-- The turn of one column in a round over columns.
use Rattle.std.specs.Prelude.{◌≡◌, ◌⊎◌, ℕ, ◌+◌, ◌<◌, ◌^◌, true, false, List, length, Option}
use Rattle.cod_types.specs.Limits.{Shape}
use Rattle.cod_chronicle.specs.declared.entry.Cause.TheVariants.{Fault}
use Rattle.cod_chronicle.specs.Said.{clock_of, next_stamp}
use Rattle.cod_parity.specs.Held.{Holds, Piece}
use Rattle.cod_seg.specs.Calls.{costs, merge_costs}
use Rattle.cod_seg.specs.Seg.{Col, col_at, Seg, with_col}
use Rattle.cod_seg.specs.Sound.{IsColumn}
use Rattle.cod_seg.specs.Steps.{KeepsColumn, Marks, PutsColumn}
use Rattle.cod_segment.specs.Events.{Counts}

-- A column may have its turn: it is as in a sound segment, and there is room for its mark.
pub record MayTurn (col : ℕ) (s : Seg) : Type 0 where
  pub among : col < s.site.shape.n
  pub there : col < length s.cols
  pub column : IsColumn s.site s.frail s.pools s.log col (col_at s.cols col)
  pub room : length s.log + 1 < 2 ^ 63

-- The column is down, and nothing changed.
pub record Rests (col : ℕ) (s : Seg) (t : ℕ) (u : Seg) (after : ℕ) : Type 0 where
  pub down : (col_at s.cols col).is_up ≡ false
  pub same : u ≡ s
  pub clock : after ≡ t

-- The column's region was called without a fault, and this came of it.
pub record Worked (Does : (old new : Col) → Type 0) (col : ℕ) (s : Seg) (t : ℕ) (u : Seg) (after : ℕ) : Type 0 where
  pub column : Col
  pub was : (col_at s.cols col).is_up ≡ true
  pub does : Does (col_at s.cols col) column
  pub clock : after ≡ t
  pub becomes : u ≡ record s { cols = with_col s.cols col column }

-- Its region failed, and it is marked down with the next stamp. Its room stays.
pub record Fallen (col : ℕ) (s : Seg) (t : ℕ) (u : Seg) (after : ℕ) : Type 0 where
  pub marks : Marks col s u
  pub count : ℕ
  pub why : marks.cause ≡ Fault count
  pub stamp : marks.stamp ≡ next_stamp (clock_of s.log) t
  pub clock : after ≡ marks.stamp
  pub room : marks.column.room ≡ (col_at s.cols col).room

abbrev pub Turned : (Does : (old new : Col) → Type 0) (col : ℕ) (s : Seg) (t : ℕ) (u : Seg) (after : ℕ) → Type 0
Turned Does col s t u after = Rests col s t u after ⊎ (Worked Does col s t u after ⊎ Fallen col s t u after)

-- A live parity column was merged or ticked: it keeps its value and what is in flight.
pub record IsTended (g : Shape) (frail cuts : List ℕ) (col : ℕ) (old new : Col) : Type 0 where
  pub keeps : KeepsColumn g frail col old new
  pub live : new.is_up ≡ old.is_up
  pub faults : new.state.device.faults ≡ old.state.device.faults
  pub holds : (v : ℕ → ℕ) (p : ℕ → Option Piece) → Holds old.state cuts v p → Holds new.state cuts v p
  pub counts : Counts (merge_costs cuts old.state) old.state.device new.state.device

-- merged: its room stays
pub record IsMerged (g : Shape) (frail cuts : List ℕ) (col : ℕ) (old new : Col) : Type 0 where
  pub tends : IsTended g frail cuts col old new
  pub room : new.room ≡ old.room

-- A live column has its bytes of these of the whole segment, by one write. Its room stays.
pub record IsGiven (g : Shape) (frail bytes cuts : List ℕ) (col : ℕ) (old new : Col) : Type 0 where
  pub puts : PutsColumn g frail col bytes cuts old new
  pub counts : Counts (costs 0 1) old.state.device new.state.device
  pub room : new.room ≡ old.room
