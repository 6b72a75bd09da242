-- What the calls of a parity column do.
use Rattle.std.specs.Prelude.{◌≡◌, ◌⊎◌, ℕ, ◌+◌, ◌≤◌, min, List, [], ◌∷◌, ◌++◌, take}
use Rattle.std.specs.List.{filter}
use Rattle.std.specs.Option.{is_some, option_map}
use Rattle.cod_types.specs.Faults.{bump}
use Rattle.cod_region.specs.Device.{Torn}
use Rattle.cod_parity.specs.Log.{AreBelowEnd, IsDue, is_past, IsValue, Logged}
use Rattle.cod_parity.specs.State.{cut_to, Means, State, was_read, with_record}

-- Only the region may differ, and of it only its faults; it was read once before.
abbrev pub FailsRead : (old new : State) → Type 0
FailsRead old new = new ≡ record old { device = record (was_read old.device) { faults = new.device.faults } }

-- n bytes from a place on may be any, and no other byte has changed; it was written once more
pub record FailsWrite (off n : ℕ) (old new : State) : Type 0 where
  pub same : new ≡ record old { device = record old.device { content = new.device.content; writes = bump old.device.writes; faults = new.device.faults } }
  pub torn : Torn off n old.device.content new.device.content

-- The records at or below the cut go into the base, and the others stay in their order, by one read and one write. No
-- number is due from then on, whether or not the region tells.
pub record Merges (cuts : List ℕ) (old new : State) : Type 0 where
  pub means : (base : List ℕ) (records : List Logged) → Means old base records
      → (next : List ℕ) × Means new next (filter (is_past cuts) records) × IsValue cuts base records next
  pub less : new.used ≤ old.used
  pub none_due : AreBelowEnd cuts → IsDue new.lowest cuts → ⊥
  pub same : new ≡ record old {
    used = new.used;
    lowest = new.lowest;
    device = record
        (was_read old.device) { content = new.device.content; writes = bump old.device.writes };
  }

-- the read of a merge failed, or its write, which may have left any bytes in the place of the base and the log
abbrev pub FailsMerge : (old new : State) → Type 0
FailsMerge old new =
    FailsRead old new ⊎ FailsWrite 0 (old.shape.block + old.used) (record old { device = was_read old.device }) new

-- a merge, but no call of the region where no record is at or below the cut
abbrev pub MergesIfDue : (cuts : List ℕ) (old new : State) → Type 0
MergesIfDue cuts old new = (IsDue old.lowest cuts → Merges cuts old new) × ((IsDue old.lowest cuts → ⊥) → new ≡ old)

-- a record is written behind the log: one write, and no byte of the base or the log is touched
pub record Appends (l : Logged) (old new : State) : Type 0 where
  pub is : new ≡ with_record l old
  pub means : (base : List ℕ) (records : List Logged) → Means old base records → Means new base (records ++ l ∷ [])

-- a record is written behind the log after one merge
pub record AppendsMerged (cuts : List ℕ) (l : Logged) (old new : State) : Type 0 where
  pub middle : State
  pub merges : Merges cuts old middle
  pub appends : Appends l middle new

-- the merge failed, or the write behind it
pub record FailsBehind (cuts : List ℕ) (n : ℕ) (old new : State) : Type 0 where
  pub middle : State
  pub merges : Merges cuts old middle
  pub fails : FailsWrite (middle.shape.block + middle.used) n middle new

abbrev pub FailsAppendMerged : (cuts : List ℕ) (n : ℕ) (old new : State) → Type 0
FailsAppendMerged cuts n old new = FailsMerge old new ⊎ FailsBehind cuts n old new

-- a merge where one is due, and then a cut of the reserved space to a size
pub record Shrinks (cuts : List ℕ) (size : ℕ) (old new : State) : Type 0 where
  pub middle : State
  pub merges : MergesIfDue cuts old middle
  pub is : new ≡ cut_to size middle

-- the cut failed: the region may have any length from the asked one to the old one, and the bytes before the asked one stay
pub record FailsCut (size : ℕ) (old new : State) : Type 0 where
  pub least : old.shape.block + size ≤ new.device.size
  pub most : new.device.size ≤ old.device.size
  pub front : option_map (take (old.shape.block + size)) new.device.content ≡ option_map (take (old.shape.block + size)) old.device.content
  pub same : new ≡ record old {
    size = size;
    used = min old.used size;
    device = record old.device { size = new.device.size; content = new.device.content; faults = new.device.faults };
  }

-- the cut failed behind a merge where one was due
pub record FailsCutBehind (cuts : List ℕ) (size : ℕ) (old new : State) : Type 0 where
  pub middle : State
  pub merges : MergesIfDue cuts old middle
  pub fails : FailsCut size middle new

abbrev pub FailsShrink : (cuts : List ℕ) (size : ℕ) (old new : State) → Type 0
FailsShrink cuts size old new = FailsMerge old new ⊎ FailsCutBehind cuts size old new

-- what no call but a tick changes, whether it fails or not
pub record Same (old new : State) : Type 0 where
  pub shape : new.shape ≡ old.shape
  pub size : new.size ≡ old.size
  pub average : new.average ≡ old.average
  pub length : new.device.size ≡ old.device.size
  pub never_fails : new.device.never_fails ≡ old.device.never_fails
  pub tells : is_some new.device.content ≡ is_some old.device.content
