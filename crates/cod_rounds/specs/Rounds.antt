-- Rounds over the columns of a segment.
use Rattle.std.specs.Prelude.{◌≡◌, ◌⊎◌, ℕ, ◌+◌, ◌<◌, ◌≤◌, if◌then◌else◌, nat_lt, true, false, List, length, map, slice_set, Option, Some, None}
use Rattle.cod_types.specs.Limits.{Shape}
use Rattle.cod_chronicle.specs.Event.{Request, Setting}
use Rattle.cod_place.specs.Room.{Room}
use Rattle.cod_seg.specs.Calls.{Cost, costs, merge_costs, nothing}
use Rattle.cod_seg.specs.Runs.{Runs}
use Rattle.cod_seg.specs.Seg.{Col, col_at, Rebuilding, Seg, Target}
use Rattle.cod_seg.specs.Steps.{MayPut, PutsColumn}
use Rattle.cod_segment.specs.Events.{Counts, CountsTarget, IsSettingOf, Makes}

-- Where a column that was up is up still, its region was read and written just so often; one that was down not at all.
abbrev pub CountsUp : Cost → (old new : Col) → Type 0
CountsUp cost old new = (old.is_up ≡ true → new.is_up ≡ true) → Counts (if old.is_up then cost else nothing) old.state.device new.state.device

-- a merge costs parity columns alone
abbrev pub tending_cost : Seg → (i : ℕ) → Cost
tending_cost s i = if nat_lt i s.site.shape.k then nothing else merge_costs s.cuts (col_at s.cols i).state

-- Steps of any request's event that doesn't answer yet.
abbrev pub GoesOn : (s : Seg) (t : ℕ) (u : Seg) (after : ℕ) → Type 0
GoesOn s t u after = (w : Setting) (r : Request) → IsSettingOf w s → Makes w r t after false s u

-- The parity columns below one have had their turns, in order: each was worked on, or went down.
pub record Tended (to : ℕ) (s : Seg) (t : ℕ) (u : Seg) (after : ℕ) : Type 0 where
  pub passed : ℕ
  pub from : to ≡ s.site.shape.k + passed
  pub runs : Runs s.site.shape.k passed s u
  pub makes : GoesOn s t u after
  pub counts : (i : ℕ) → i < to → CountsUp (tending_cost s i) (col_at s.cols i) (col_at u.cols i)

abbrev pub rooms_in : List Col → List Room
rooms_in cols = map (λ (c : Col). c.room) cols

-- The columns below one have got their bytes of these, in order, or went down. `marked` is the segment with its marks alone.
pub record Given (bytes : List ℕ) (to : ℕ) (s : Seg) (t : ℕ) (u : Seg) (after : ℕ) : Type 0 where
  pub marked : Seg
  pub runs : Runs 0 to s marked
  pub makes : GoesOn s t marked after
  pub becomes : u ≡ record marked { cols = u.cols }
  pub size : length u.cols ≡ length marked.cols
  pub each : (i : ℕ) → i < to → PutsColumn marked.site.shape marked.frail i bytes marked.cuts (col_at marked.cols i) (col_at u.cols i)
  pub rest : (i : ℕ) → to ≤ i → col_at u.cols i ≡ col_at marked.cols i
  pub counts : (i : ℕ) → i < to → CountsUp (costs 0 1) (col_at s.cols i) (col_at u.cols i)
  pub rooms : rooms_in u.cols ≡ rooms_in s.cols

-- ---- the target of a rebuild

-- what a put costs on a target: one write, where something is there
abbrev pub putting_cost : Target → Cost
putting_cost t = if nat_lt 0 t.filled then costs 0 1 else nothing

-- The bytes that are on the target become those of these bytes; where there is no target, nothing changes.
pub record PutsOn (g : Shape) (bytes : List ℕ) (old new : Rebuilding) : Type 0 where
  pub target : Option Target
  pub becomes : new ≡ record old { target = target }
  pub puts : MayPut g old.col bytes old.target target
  pub counts : (t : Target) → old.target ≡ Some t → CountsTarget (putting_cost t) old.target target

-- The target's region failed: its node is broken with its count of faults, and the target is let go.
pub record BreaksOn (old new : Rebuilding) : Type 0 where
  pub t : Target
  pub goal : old.target ≡ Some t
  pub count : ℕ
  pub some : 1 ≤ count
  pub fails : t.device.never_fails ≡ true → ⊥
  pub becomes : new ≡ record old { broken = slice_set old.broken t.room.node.0 (Some count); target = None }

abbrev pub GivesGoal : (g : Shape) (bytes : List ℕ) (old new : Option Rebuilding) → Type 0
GivesGoal g bytes None new = new ≡ None
GivesGoal g bytes (Some r) new = (q : Rebuilding) × (new ≡ Some q) × (PutsOn g bytes r q ⊎ BreaksOn r q)

-- a target may be written, and may fail
pub record MayGet (g : Shape) (t : Target) : Type 0 where
  pub node : t.room.node.0 < 64
  pub clean : t.device.faults ≡ 0
  pub within : t.filled ≤ g.block
  pub size : g.block ≤ t.device.size
