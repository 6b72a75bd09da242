-- The exact step of an event, as far as turns and their end rest on it: which columns come to a node, and what is left to do.
use Rattle.std.specs.Prelude.{◌≡◌, ◌≢◌, ◌⊎◌, ℕ, ◌-◌, ◌<◌, min, true, false, Option, Some, None, IsSome, List, ◌++◌, length, slice_index_or}
use Rattle.std.specs.List.{AllByRecursion}
use Rattle.cod_chronicle.specs.declared.entry.Entry.{Entry}
use Rattle.cod_chronicle.specs.declared.entry.Entry.TheVariants.{Up, Move}
use Rattle.cod_chronicle.specs.Event.{Kills, Request, Setting}
use Rattle.cod_seg.specs.Calls.{piece_count}
use Rattle.cod_seg.specs.Next.{next_step}
use Rattle.cod_seg.specs.Seg.{col_at, Rebuilding, Seg, Target}
use Rattle.cod_seg.specs.Steps.{Applies, filled_with, Marks, Moves, Notes, Rises}
use Rattle.cod_seg.specs.declared.next.Step.{Step}
use Rattle.cod_seg.specs.declared.next.Step.TheVariants as step
use Rattle.cod_segment.specs.declared.asking.Outcome.{Outcome}
use Rattle.cod_segment.specs.declared.asking.Outcome.TheVariants.{Moved, Answered, Held}
use Rattle.cod_segment.specs.Advancing.{Advances}

-- ---- the sweep

-- A target stays where its node wasn't known as killed, and is let go where its node is seen as killed.
abbrev pub SweepsTarget : Setting → (old new : Option Target) → Type 0
SweepsTarget w None new = new ≡ None
SweepsTarget w (Some t) new = ((new ≡ Some t) × (w.known t.room.node.0 ≡ None)) ⊎ ((new ≡ None) × IsSome (w.seen t.room.node.0))

abbrev pub SweepsRebuild : Setting → (old new : Option Rebuilding) → Type 0
SweepsRebuild w None new = new ≡ None
SweepsRebuild w (Some r) new = (target : Option Target) × (new ≡ Some (record r { target = target })) × SweepsTarget w r.target target

-- Beside its marks a sweep changes nothing but that target.
pub record SweepsExactly (w : Setting) (s u : Seg) : Type 0 where
  pub claims : u.claims ≡ s.claims
  pub rebuild : SweepsRebuild w s.rebuild u.rebuild

-- ---- a column that comes to a node

-- no column comes to a node
abbrev pub IsStaying : Entry → Type 0
IsStaying (Up stamp col node) = ⊥
IsStaying (Move stamp col node) = ⊥
IsStaying _ = Unit {0}

-- the entries that are added bring none
pub record Stays (s u : Seg) : Type 0 where
  pub entries : List Entry
  pub grown : u.log ≡ s.log ++ entries
  pub staying : AllByRecursion IsStaying entries

-- First marks alone, and then a column moves to a node that isn't known as killed. Its new region was written once for each piece.
pub record Shifts (known : Kills) (s u : Seg) : Type 0 where
  pub before : Seg
  pub col : ℕ
  pub stays : Stays s before
  pub moves : Moves col before u
  pub off : known moves.place.room.node.0 ≡ None
  pub written : moves.place.device.writes ≡ piece_count s.site.shape
  pub unread : moves.place.device.reads ≡ 0

-- ---- a rebuild that goes on

-- the count of faults for which a node is broken for the rebuild in progress
abbrev pub fault_at : Option Rebuilding → (node : ℕ) → Option ℕ
fault_at None node = None
fault_at (Some r) node = slice_index_or r.broken node None

-- Only the rebuild changes: it has a target now, of which no byte is there, on a node that is neither known as killed nor broken for it.
-- Where none was in progress no node is broken.
pub record Aimed (known : Kills) (s u : Seg) : Type 0 where
  pub r : Rebuilding
  pub t : Target
  pub goal : r.target ≡ Some t
  pub fresh : t.filled ≡ 0
  pub broken : (x : ℕ) → fault_at (Some r) x ≡ fault_at s.rebuild x
  pub whole : fault_at (Some r) t.room.node.0 ≡ None
  pub alive : known t.room.node.0 ≡ None
  pub becomes : u ≡ record s { rebuild = Some r }

-- the target has the next bytes, up to 4096
pub record Brings (s u : Seg) : Type 0 where
  pub r : Rebuilding
  pub t : Target
  pub piece : List ℕ
  pub writes : ℕ
  pub was : s.rebuild ≡ Some r
  pub goal : r.target ≡ Some t
  pub long : length piece ≡ min 4096 (s.site.shape.block - t.filled)
  pub now : u.rebuild ≡ Some (record r { target = Some (filled_with piece writes t) })

-- a column went down, and the rebuild is as it was
pub record Falls (s u : Seg) : Type 0 where
  pub col : ℕ
  pub among : col < s.site.shape.n
  pub was : (col_at s.cols col).is_up ≡ true
  pub down : (col_at u.cols col).is_up ≡ false
  pub same : u.rebuild ≡ s.rebuild

-- the target's node broke, and the target is let go
pub record Breaks (s u : Seg) : Type 0 where
  pub r : Rebuilding
  pub t : Target
  pub q : Rebuilding
  pub was : s.rebuild ≡ Some r
  pub goal : r.target ≡ Some t
  pub now : u.rebuild ≡ Some q
  pub dropped : q.target ≡ None
  pub broke : IsSome (fault_at (Some q) t.room.node.0)
  pub others : (x : ℕ) → x ≢ t.room.node.0 → fault_at (Some q) x ≡ fault_at (Some r) x

-- The sources were read, and then one of these came of it; what is claimed stays.
pub record Fetches (s u : Seg) : Type 0 where
  pub claims : u.claims ≡ s.claims
  pub ends : Brings s u ⊎ (Falls s u ⊎ Breaks s u)

-- ---- each step

-- what a step does that goes on; all others answer
abbrev pub GoesOnBy : Setting → Step → (s u : Seg) → Type 0
GoesOnBy w step.Begin s u = u.rebuild ≡ s.rebuild
GoesOnBy w (step.Data j) s u = Applies j s u ⊎ Marks j s u
GoesOnBy w (step.Parity j i) s u = Notes j i s u ⊎ Marks i s u
GoesOnBy w step.RebuildStart s u = Aimed w.known s u
GoesOnBy w step.RebuildPiece s u = Fetches s u
GoesOnBy w _ s u = ⊥

-- what a step does that answers: of a rebuild or a drain, where it brings a column
abbrev pub AnswersBy : Setting → Step → (s u : Seg) → Type 0
AnswersBy w step.RebuildEnd s u = Rises s u
AnswersBy w step.Drain s u = Stays s u ⊎ Shifts w.known s u
AnswersBy w step.Lost s u = Stays s u
AnswersBy w step.Whole s u = Stays s u
AnswersBy w step.Clear s u = Stays s u
AnswersBy w step.RebuildStart s u = Stays s u
AnswersBy w step.RebuildPiece s u = ⊥
AnswersBy w (step.Held h) s u = ⊥
AnswersBy w _ s u = Unit {0}

abbrev pub Exactly : Setting → Step → Outcome → (s u : Seg) → Type 0
Exactly w next (Held h) s u = Unit {0}
Exactly w next Moved s u = GoesOnBy w next s u
Exactly w next (Answered position stamp) s u = AnswersBy w next s u

-- One event of a caller: its sweep, and then that of the next step, each exactly.
pub record Turns (w : Setting) (r : Request) (t after : ℕ) (outcome : Outcome) (s u : Seg) : Type 0 where
  pub advances : Advances w r t after outcome s u
  pub sweeps : SweepsExactly w s advances.mid
  pub exact : Exactly w (next_step advances.mid r.caller r.call) outcome advances.mid u
