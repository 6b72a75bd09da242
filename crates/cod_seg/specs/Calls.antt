-- The reads and writes that a call's next event makes on each region, where none fails in it.
use Rattle.std.specs.Prelude.{◌≡◌, ◌↔◌, ℕ, zero, suc, ◌+◌, ◌/◌, ◌<◌, ◌==◌, ◌&&◌, ◌||◌, nat_le, nat_lt, if◌then◌else◌, Bool, true, false, Option, Some}
use Rattle.std.specs.Prelude.{None, is_some, find, List, length, slice_index}
use Rattle.std.specs.List.{range_with_len}
use Rattle.cod_types.specs.Limits.{Shape}
use Rattle.cod_types.specs.declared.call.Call.{Call as Asked}
use Rattle.cod_types.specs.declared.call.Call.TheVariants.{Read, Drain}
use Rattle.cod_layout.specs.Parts.{length_in}
use Rattle.cod_chronicle.specs.Said.{is_over}
use Rattle.cod_claims.specs.declared.claim.Claim.{Claim}
use Rattle.cod_claims.specs.Changes.{new_bytes}
use Rattle.cod_claims.specs.Claimed.{claim_at, is_of}
use Rattle.cod_parity.specs.Log.{IsDue}
use Rattle.cod_parity.specs.State.{State}
use Rattle.cod_seg.specs.Seg.{Col, col_at, Seg, Target}
use Rattle.cod_seg.specs.Sound.{begin_of, Sound}
use Rattle.cod_seg.specs.Steps.{length_for}
use Rattle.cod_seg.specs.Laws.{up_below}
use Rattle.cod_seg.specs.Next.{live_on}
use Rattle.cod_seg.specs.declared.next.Step.{Step}
use Rattle.cod_seg.specs.declared.next.Step.TheVariants as step

-- so many reads and writes of a region
pub record Cost : Type 0 where
  pub reads : ℕ
  pub writes : ℕ

abbrev pub costs : (reads writes : ℕ) → Cost
costs reads writes = record { reads = reads; writes = writes }

abbrev pub nothing : Cost
nothing = costs 0 0

-- one of the k lowest columns that are up: from those any other column is made
abbrev pub is_source : (k : ℕ) → List Col → (i : ℕ) → Bool
is_source k cols i = (col_at cols i).is_up && nat_lt (up_below i cols) k

-- how many of the first n columns are
abbrev pub sources_below : (k n : ℕ) → List Col → ℕ
sources_below k zero cols = 0
sources_below k (suc n) cols = sources_below k n cols + (if is_source k cols n then 1 else 0)

-- The reads of column i for a block's bytes: one of its own column where that is up, and else one of each source.
abbrev pub block_reads : (k : ℕ) → List Col → (j i : ℕ) → ℕ
block_reads k cols j i = if (col_at cols j).is_up then (if j == i then 1 else 0) else (if is_source k cols i then 1 else 0)

-- those for a range's bytes in the first m blocks
abbrev pub range_reads : (m : ℕ) → Shape → List Col → (off len i : ℕ) → ℕ
range_reads zero g cols off len i = 0
range_reads (suc m) g cols off len i =
    range_reads m g cols off len i + (if nat_lt 0 (length_in g.block off len m) then block_reads g.k cols m i else 0)

-- the range that a read reads, or an update replaces
abbrev pub range_off : Asked → ℕ
range_off (Read off len) = off
range_off call = begin_of call

abbrev pub range_len : Asked → ℕ
range_len (Read off len) = len
range_len call = length (new_bytes call)

-- whether some record is at or below the cut, by the least numbers
abbrev pub is_due : (low cuts : List ℕ) → Bool
is_due low cuts = is_some (find (λ j. nat_le (slice_index low j) (slice_index cuts j)) (range_with_len 0 16))

-- a merge makes one read and one write, where it is due
abbrev pub merge_costs : (cuts : List ℕ) → State → Cost
merge_costs cuts c = if is_due c.lowest cuts then costs 1 1 else nothing

-- a record goes behind the log by one write, and where there is no room a merge comes first
abbrev pub append_costs : (n : ℕ) → State → Cost
append_costs n c = if nat_le (c.used + n) c.size then costs 0 1 else costs 1 2

-- how many bytes the record of block j's claim has on column i
abbrev pub record_length : Seg → (j i : ℕ) → Option Claim → ℕ
record_length s j i None = 0
record_length s j i (Some c) = length_for s.site.shape.k s.version s.cuts j i c

-- into how many pieces of 4096 bytes, of which the last may be shorter, a column is cut where it is copied
abbrev pub piece_count : Shape → ℕ
piece_count g = (g.block + 4095) / 4096

-- the column that a drain moves
abbrev pub drained : Seg → Asked → Option ℕ
drained s (Drain node) = live_on s.site s.log node.0
drained s _ = None

abbrev pub copy_costs : Shape → (moved : Option ℕ) → (i : ℕ) → Cost
copy_costs g None i = nothing
copy_costs g (Some c) i = if c == i then costs (piece_count g) 0 else nothing

-- what the event costs on column i, which is up
abbrev pub live_costs : Seg → Asked → Step → (i : ℕ) → Cost
live_costs s call step.Read i = costs (range_reads s.site.shape.k s.site.shape s.cols (range_off call) (range_len call) i) 0
live_costs s call step.Begin i = costs (range_reads s.site.shape.k s.site.shape s.cols (range_off call) (range_len call) i) 0
live_costs s call (step.Data j) i = if j == i then costs 0 1 else nothing
live_costs s call (step.Parity j p) i = if p == i then append_costs (record_length s j i (claim_at s.claims j)) (col_at s.cols i).state else nothing
live_costs s call step.Put i = costs 0 1
live_costs s call step.Merge i = if nat_lt i s.site.shape.k then nothing else merge_costs s.cuts (col_at s.cols i).state
live_costs s call step.Tick i = if nat_lt i s.site.shape.k then nothing else merge_costs s.cuts (col_at s.cols i).state
live_costs s call step.RebuildPiece i = if is_source s.site.shape.k s.cols i then costs 1 0 else nothing
live_costs s call step.Drain i = copy_costs s.site.shape (drained s call) i
live_costs s call _ i = nothing

-- and on any: none on one that is down
abbrev pub column_costs : Seg → Asked → Step → (i : ℕ) → Cost
column_costs s call next i = if (col_at s.cols i).is_up then live_costs s call next i else nothing

-- whether the caller's claim of block j changes some of the first bytes of a column: of a data column only the claim of its own block
-- does, and of a parity column each
abbrev pub is_touched : (k col filled caller j : ℕ) → Option Claim → Bool
is_touched k col filled caller j None = false
is_touched k col filled caller j (Some c) = is_of caller (Some c) && ((nat_le k col || (j == col)) && nat_lt c.delta.part.off filled)

abbrev pub touched_below : (m k col filled caller : ℕ) → List (Option Claim) → ℕ
touched_below zero k col filled caller claims = 0
touched_below (suc m) k col filled caller claims =
    touched_below m k col filled caller claims + (if is_touched k col filled caller m (claim_at claims m) then 1 else 0)

-- A commit corrects a target's bytes by one write for each part that meets them; a parity column's are read before.
abbrev pub correction_costs : Shape → (col caller : ℕ) → List (Option Claim) → Target → Cost
correction_costs g col caller claims t =
    if nat_lt col g.k then costs 0 (touched_below g.k g.k col t.filled caller claims)
    else costs (touched_below g.k g.k col t.filled caller claims) (touched_below g.k g.k col t.filled caller claims)

-- what the event costs on the target of a rebuild
abbrev pub costs_on : Seg → (caller col : ℕ) → Step → Target → Cost
costs_on s caller col step.Commit t = correction_costs s.site.shape col caller s.claims t
costs_on s caller col step.Put t = if nat_lt 0 t.filled then costs 0 1 else nothing
costs_on s caller col step.RebuildPiece t = costs 0 1
costs_on s caller col _ t = nothing

-- A block that is down is read from exactly k columns, where not too many are down.
abbrev pub SourcesAreEnough : Type 0
SourcesAreEnough = (s : Seg) → Sound s → is_over s.site s.log ≡ false → sources_below s.site.shape.k s.site.shape.n s.cols ≡ s.site.shape.k

-- A range is read directly, where each block that it meets is up: by one read of each of these, and of no other column.
abbrev pub ReadsDirectly : Type 0
ReadsDirectly = (g : Shape) (cols : List Col) (off len i : ℕ) → ((j : ℕ) → j < g.k → 0 < length_in g.block off len j → (col_at cols j).is_up ≡ true)
    → range_reads g.k g cols off len i ≡ (if nat_lt i g.k && nat_lt 0 (length_in g.block off len i) then 1 else 0)

-- the test of the least numbers says whether one is due
abbrev pub TestsDue : Type 0
TestsDue = (low cuts : List ℕ) → (is_due low cuts ≡ true) ↔ IsDue low cuts
