-- What a sweep leaves of a column.
use Rattle.std.specs.Prelude.{◌≡◌, ◌⊎◌, ℕ, max, true, false, List, [], ◌∷◌, ◌++◌, Option, Some, None, IsSome, length}
use Rattle.std.specs.List.{range_with_len}
use Rattle.cod_chronicle.specs.declared.entry.Cause.TheVariants.{Killed}
use Rattle.cod_chronicle.specs.declared.entry.Entry.{Entry}
use Rattle.cod_chronicle.specs.declared.entry.Entry.TheVariants.{Down}
use Rattle.cod_chronicle.specs.Event.{Request, Setting}
use Rattle.cod_chronicle.specs.Said.{clock_of, next_stamp, StampFollows}
use Rattle.cod_chronicle.specs.Sweep.{Sweeps}
use Rattle.cod_board.specs.declared.kill.Kill.{Kill}
use Rattle.cod_board.specs.Kills.{Keeps, kill_of}
use Rattle.cod_seg.specs.Runs.{Runs}
use Rattle.cod_seg.specs.Seg.{col_at, Rebuilding, Seg, Target, with_col}
use Rattle.cod_segment.specs.Events.{IsSettingOf, kills_at, Makes, rooms_of}

-- A column is passed by: it is down, or its node wasn't known as killed.
pub record IsSpared (before : List (Option Kill)) (i t after : ℕ) (s u : Seg) : Type 0 where
  pub why : ((col_at s.cols i).is_up ≡ false) ⊎ (kill_of before (col_at s.cols i).room.node.0 ≡ None)
  pub clock : after ≡ t
  pub same : u ≡ s

-- A live column goes down, whose node is seen as killed now.
pub record IsStruck (now : List (Option Kill)) (i t after : ℕ) (s u : Seg) : Type 0 where
  pub kill : Kill
  pub live : (col_at s.cols i).is_up ≡ true
  pub seen : kill_of now (col_at s.cols i).room.node.0 ≡ Some kill
  pub clock : after ≡ next_stamp (clock_of s.log) (max t kill.clock)
  pub follows : StampFollows s.log after
  pub becomes : u ≡ record s {
    cols = with_col s.cols i (record (col_at s.cols i) { is_up = false });
    log = s.log ++ Down after i (col_at s.cols i).room.node (Killed kill.line) ∷ [];
  }

abbrev pub IsSwept : (before now : List (Option Kill)) (i t after : ℕ) (s u : Seg) → Type 0
IsSwept before now i t after s u = IsSpared before i t after s u ⊎ IsStruck now i t after s u

-- The target stays, whose node wasn't known as killed and isn't seen as killed now; or its node is seen as killed, and it is let go.
abbrev pub IsGoalSwept : (before now : List (Option Kill)) (old new : Option Target) → Type 0
IsGoalSwept before now None new = new ≡ None
IsGoalSwept before now (Some t) new =
    ((new ≡ Some t) × (kill_of before t.room.node.0 ≡ None) × (kill_of now t.room.node.0 ≡ None)) ⊎ ((new ≡ None) × IsSome (kill_of now t.room.node.0))

abbrev pub IsTargetSwept : (before now : List (Option Kill)) (old new : Option Rebuilding) → Type 0
IsTargetSwept before now None new = new ≡ None
IsTargetSwept before now (Some r) new = (target : Option Target) × (new ≡ Some (record r { target = target })) × IsGoalSwept before now r.target target

-- What a sweep has made of the first m columns.
pub record Rounds (w : Setting) (r : Request) (m t after : ℕ) (s u : Seg) : Type 0 where
  pub makes : Makes w r t after false s u
  pub marks : List Entry
  pub grown : u.log ≡ s.log ++ marks
  pub sweeps : Sweeps w s.log t (range_with_len 0 m) marks after

-- What holds on the way, when m columns are done: the board may learn of kills, and forgets none.
pub record IsSweeping (before now : List (Option Kill)) (m t after : ℕ) (s u : Seg) : Type 0 where
  pub runs : Runs 0 m s u
  pub rooms : rooms_of u ≡ rooms_of s
  pub size : length now ≡ length before
  pub keeps : Keeps before now
  pub rounds : (later : List (Option Kill)) (w : Setting) (r : Request) → Keeps now later → IsSettingOf w s → ((x : ℕ) → w.known x ≡ kills_at before x)
      → ((x : ℕ) → w.seen x ≡ kills_at later x) → Rounds w r m t after s u
