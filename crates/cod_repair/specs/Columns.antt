-- The columns of a segment as their callers see them.
use Rattle.std.specs.Prelude.{◌≡◌, ℕ, zero, suc, ◌+◌, ◌<◌, ◌≤◌, ◌&&◌, ◌==◌, nat_lt, not, find, Bool, true, if◌then◌else◌, List, length, Option, Some, None}
use Rattle.std.specs.Prelude.{Result, IfErr}
use Rattle.std.specs.List.{list_any, range_with_len}
use Rattle.cod_types.specs.declared.call.NodeId.{NodeId}
use Rattle.cod_types.specs.declared.call.SegId.{SegId}
use Rattle.cod_types.specs.declared.layout.LayoutLine.{LayoutLine}
use Rattle.cod_types.specs.declared.layout.ParityLine.{ParityLine}
use Rattle.cod_types.specs.Faults.{bump, HasCause}
use Rattle.cod_types.specs.Limits.{Shape}
use Rattle.cod_region.specs.Device.{Device}
use Rattle.cod_data.specs.Values.{HasValue as BlockHas}
use Rattle.cod_parity.specs.Held.{HasValue as LogHas}
use Rattle.cod_parity.specs.State.{State}
use Rattle.cod_seg.specs.Laws.{up_below}
use Rattle.cod_seg.specs.Seg.{Col, col_at, with_col}
use Rattle.cod_repair.specs.declared.columns.ColumnFailed.{ColumnFailed}

-- what a region holds, where it tells it, is as long as the region
abbrev pub IsFull : Device → Type 0
IsFull d = (held : List ℕ) → d.content ≡ Some held → length held ≡ d.size

-- The column's value at the cut. A data column, which has no reserved space, holds it with the kept bytes added; a parity column has
-- it by its log. Nothing has a value where the content isn't told.
pub record HasValue (c : Col) (cuts : List ℕ) (kept value : ℕ → ℕ) : Type 0 where
  pub block : c.state.size ≡ 0 → BlockHas c.state.device kept value
  pub parity : 0 < c.state.size → LogHas c.state cuts value

-- Column i is one of a geometry's: it has no reserved space and a block's bytes where it is a data column, and reserved space where it
-- is a parity column.
pub record IsMadeFor (g : Shape) (i : ℕ) (c : Col) : Type 0 where
  pub shape : c.state.shape ≡ g
  pub bare : i < g.k → c.state.size ≡ 0
  pub block : i < g.k → c.state.device.size ≡ g.block
  pub parity : g.k ≤ i → 0 < c.state.size

-- each column that is live is
abbrev pub AreMadeFor : Shape → List Col → Type 0
AreMadeFor g cols = (i : ℕ) → i < g.n → (col_at cols i).is_up ≡ true → IsMadeFor g i (col_at cols i)

abbrev pub state_at : List Col → ℕ → State
state_at cols i = (col_at cols i).state

abbrev pub with_state : List Col → ℕ → State → List Col
with_state cols i s = with_col cols i (record (col_at cols i) { state = s })

abbrev pub faults_at : List Col → ℕ → ℕ
faults_at cols i = (col_at cols i).state.device.faults

-- A call of column i's region: it fails only where the region's count of faults rose, and the failure has the column and that count.
pub record IsTold {T : Type 0} (i : ℕ) (old new : List Col) (result : Result T ColumnFailed) : Type 0 where
  pub cause : HasCause (faults_at old i) (faults_at new i) result
  pub named : IfErr result (λ e. (e.col ≡ i) × (e.count ≡ faults_at new i))

-- the node of a column that is live
abbrev pub live_node : Col → Option NodeId
live_node c = if c.is_up then Some c.room.node else None

-- the lowest column that is down
abbrev pub first_down : List Col → Option ℕ
first_down cols = find (λ i. not (col_at cols i).is_up) (range_with_len 0 (length cols))

-- some column is on the node
abbrev pub is_taken : List Col → (node : ℕ) → Bool
is_taken cols node = list_any (λ (c : Col). c.room.node.0 == node) cols

-- what is printed of a parity column besides
abbrev pub parity_of : State → Option ParityLine
parity_of s = if nat_lt 0 s.size then Some (record { used = s.used; avg = s.average }) else None

-- what is printed of a column
abbrev pub line_of : SegId → (col : ℕ) → Col → LayoutLine
line_of seg col c =
    record {
      seg = seg;
      col = col;
      node = c.room.node;
      up = c.is_up;
      len = c.state.device.size;
      parity = parity_of c.state;
      reads = c.state.device.reads;
      writes = c.state.device.writes;
    }

-- a column has the range, and the scratch bytes are enough to read it
pub record IsReadable (off len scratch : ℕ) (c : Col) : Type 0 where
  pub block : c.state.size ≡ 0 → c.state.device.size ≡ c.state.shape.block
  pub inside : off + len ≤ c.state.shape.block
  pub scratch_size : c.state.shape.block + c.state.shape.reserve ≤ scratch

-- a column has the range in its block
pub record IsInside (off len : ℕ) (c : Col) : Type 0 where
  pub block : c.state.size ≡ 0 → c.state.device.size ≡ c.state.shape.block
  pub inside : off + len ≤ c.state.shape.block

-- A column's bytes at the cut are those of its region: no delta is kept, and no record stands in its log.
pub record IsPlain (c : Col) (kept : ℕ → ℕ) : Type 0 where
  pub bare : c.state.size ≡ 0 → (x : ℕ) → kept x ≡ 0
  pub no_record : 0 < c.state.size → c.state.used ≡ 0

-- column i is one of the k lowest live columns
abbrev pub is_source : (k : ℕ) → List Col → ℕ → Bool
is_source k cols i = (col_at cols i).is_up && nat_lt (up_below i cols) k

-- a column after one more read, with so many faults now
abbrev pub was_read : (faults : ℕ) → Col → Col
was_read faults c =
    record c { state = record c.state { device = record c.state.device { reads = bump c.state.device.reads; faults = faults } } }

-- the columns after one read on each of the chosen ones below m, none of which failed
abbrev pub were_read : (chosen : ℕ → Bool) → List Col → (m : ℕ) → List Col
were_read chosen cols zero = cols
were_read chosen cols (suc m) =
    if chosen m then with_col (were_read chosen cols m) m (was_read (faults_at cols m) (col_at cols m)) else were_read chosen cols m

-- the same up to a chosen column whose read failed, and now has so many faults
abbrev pub failed_at : (chosen : ℕ → Bool) → List Col → (m faults : ℕ) → List Col
failed_at chosen cols m faults = with_col (were_read chosen cols m) m (was_read faults (col_at cols m))
