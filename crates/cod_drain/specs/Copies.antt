-- What it comes to when a live column is copied to another region.
use Rattle.std.specs.Prelude.{◌≡◌, ℕ, ◌<◌, ◌≤◌, All, List, [], ◌∷◌, ◌++◌, slice_index, slice_set, Option, Some, None, is_some, true, false}
use Rattle.cod_types.specs.Faults.{grown}
use Rattle.cod_chronicle.specs.declared.entry.Cause.TheVariants.{Fault}
use Rattle.cod_chronicle.specs.declared.entry.Entry.TheVariants.{Down}
use Rattle.cod_chronicle.specs.Said.{bytes_of, clock_of, next_stamp, StampFollows}
use Rattle.cod_code.specs.Segments.{column_byte}
use Rattle.cod_board.specs.declared.kill.Kill.{Kill as Killed}
use Rattle.cod_board.specs.Kills.{kill_of}
use Rattle.cod_place.specs.Room.{Room}
use Rattle.cod_types.specs.declared.reasons.Reason.{Reason}
use Rattle.cod_seg.specs.Calls.{piece_count}
use Rattle.cod_seg.specs.Seg.{Col, col_at, node_in, Seg, Target, with_col}
use Rattle.cod_place.specs.Spares.{fault_of}
use Rattle.cod_seg.specs.Sound.{AreBroken, is_frail}
use Rattle.cod_seg.specs.Steps.{IsPlace, Place}
use Rattle.cod_repair.specs.Columns.{IsFull}
use Rattle.cod_repair.specs.declared.columns.ColumnFailed.{ColumnFailed}
use Rattle.cod_segment.specs.Looks.{IsLooked}
use Rattle.cod_placing.specs.Places.{HasNoSpare}
use Rattle.cod_drain.specs.declared.copying.CopyFailed.{CopyFailed}
use Rattle.cod_drain.specs.declared.copying.CopyFailed.TheVariants.{Old, New}
use Rattle.cod_drain.specs.declared.plan.Plan.{Plan}
use Rattle.cod_drain.specs.declared.trying.Tried.{Tried}
use Rattle.cod_drain.specs.declared.trying.Tried.TheVariants.{Copied, Failed, NoSpare, NoMemory}

-- ---- the column

-- a column after so many reads more
abbrev pub read_times : (times : ℕ) → Col → Col
read_times times c =
    record c { state = record c.state { device = record c.state.device { reads = grown times c.state.device.reads } } }

-- and with so many faults by now
abbrev pub with_faults : (faults : ℕ) → Col → Col
with_faults faults c = record c { state = record c.state { device = record c.state.device { faults = faults } } }

-- column i was read so many times, and nothing else has changed
abbrev pub WasRead : (i times : ℕ) (s u : Seg) → Type 0
WasRead i times s u = u ≡ record s { cols = with_col s.cols i (read_times times (col_at s.cols i)) }

-- column i was read, and the last of the reads failed
pub record FailsRead (i : ℕ) (failed : ColumnFailed) (s u : Seg) : Type 0 where
  pub times : ℕ
  pub named : failed.col ≡ i
  pub some : 1 ≤ failed.count
  pub unsure : (col_at s.cols i).state.device.never_fails ≡ true → ⊥
  pub becomes : u ≡ record s { cols = with_col s.cols i (with_faults failed.count (read_times times (col_at s.cols i))) }

-- and so the column has gone down
pub record Falls (i t after : ℕ) (s u : Seg) : Type 0 where
  pub times : ℕ
  pub count : ℕ
  pub some : 1 ≤ count
  pub frail : is_frail s.frail (node_in (col_at s.cols i)) ≡ true
  pub stamp : after ≡ next_stamp (clock_of s.log) t
  pub follows : StampFollows s.log after
  pub becomes : u ≡ record s {
    cols = with_col s.cols i (record (with_faults count (read_times times (col_at s.cols i))) { is_up = false });
    log = s.log ++ Down after i (col_at s.cols i).room.node (Fault count) ∷ [];
  }

-- ---- the target

-- what stays of a target while it is filled
pub record KeepsGoal (t u : Target) : Type 0 where
  pub room : u.room ≡ t.room
  pub size : u.device.size ≡ t.device.size
  pub reads : u.device.reads ≡ t.device.reads
  pub faults : u.device.faults ≡ t.device.faults
  pub never_fails : u.device.never_fails ≡ t.device.never_fails
  pub tells : is_some u.device.content ≡ is_some t.device.content
  pub full : IsFull u.device

-- its region failed
pub record Breaks (t u : Target) : Type 0 where
  pub room : u.room ≡ t.room
  pub some : 1 ≤ u.device.faults
  pub unsure : t.device.never_fails ≡ true → ⊥

-- the bytes of a target that are there, where they are told, are those of a value
abbrev pub HasBytes : (value : ℕ → ℕ) → Target → Type 0
HasBytes value t = (held : List ℕ) → t.device.content ≡ Some held → (x : ℕ) → x < t.filled → slice_index held x ≡ value x

-- a copy failed: in the column's region, which may have been read before, or in the target's
abbrev pub FailsCopy : (i : ℕ) → CopyFailed → (s u : Seg) (t v : Target) → Type 0
FailsCopy i (Old failed) s u t v = FailsRead i failed s u × (v.room ≡ t.room)
FailsCopy i New s u t v = (times : ℕ) × WasRead i times s u × Breaks t v

-- ---- a try

-- what the plan's column is where it comes to a target
abbrev pub place_of : Plan → Target → Place
place_of p t = record { room = t.room; size = p.size; average = p.average; device = t.device }

-- The plan's column may come to this target, which has its bytes, by one write for each piece; the node isn't known as killed.
pub record MayCome (s : Seg) (p : Plan) (kills : List (Option Killed)) (t : Target) : Type 0 where
  pub is : IsPlace s.site s.frail s.pools s.log p.col (place_of p t)
  pub copied : s.site.told ≡ true → (held : List ℕ) → t.device.content ≡ Some held → (x : ℕ) → x < s.site.shape.block
      → slice_index held x ≡ column_byte s.site.shape.k s.site.shape.block p.col (bytes_of s.site s.log) x
  pub written : t.device.writes ≡ piece_count s.site.shape
  pub unread : t.device.reads ≡ 0
  pub up : kill_of kills t.room.node.0 ≡ None

-- the column was read, and the clock stays
pub record Reads (i t after : ℕ) (s u : Seg) : Type 0 where
  pub times : ℕ
  pub becomes : WasRead i times s u
  pub clock : after ≡ t

-- The region of the place failed: its node, which wasn't broken, is so from now on.
pub record MayTryAgain (i : ℕ) (broken again : List (Option ℕ)) (t after : ℕ) (s u : Seg) : Type 0 where
  pub reads : Reads i t after s u
  pub node : ℕ
  pub count : ℕ
  pub small : node < 64
  pub fresh : fault_of broken node ≡ None
  pub becomes : again ≡ slice_set broken node (Some count)
  pub honest : AreBroken s.frail again

module _ {R : Type 0} where
  -- What came of trying: the segment was s before and is u, and the clock was t.
  abbrev pub Tries : (p : Plan) (kills : List (Option Killed)) (reasons : List Reason) (t after : ℕ) (s u : Seg) → Tried R → Type 0
  Tries p kills reasons t after s u (Copied goal) = Reads p.col t after s u × MayCome s p kills goal
  Tries p kills reasons t after s u Failed = Falls p.col t after s u
  Tries p kills reasons t after s u NoSpare = Reads p.col t after s u × HasNoSpare s p.col kills reasons
  Tries p kills reasons t after s u NoMemory = Reads p.col t after s u

  -- Where no node is a spare, each number of free bytes among the reasons was seen.
  abbrev pub HasSought : (Seen : ℕ → ℕ → Type 0) → List Reason → Tried R → Type 0
  HasSought Seen reasons NoSpare = All (λ r. IsLooked Seen r.node.0 r.why) reasons
  HasSought Seen reasons _ = Unit {0}

  -- the room of a target that is at hand
  abbrev pub rooms_at : Tried R → List Room
  rooms_at (Copied goal) = goal.room ∷ []
  rooms_at _ = []

  abbrev pub rooms_of_try : Option (Tried R) → List Room
  rooms_of_try None = []
  rooms_of_try (Some tried) = rooms_at tried
