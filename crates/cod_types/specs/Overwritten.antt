-- Bytes that are replaced by others, and bytes of which only a range may have changed.
use Rattle.std.specs.Prelude.{◌≡◌, ℕ, ◌+◌, ◌-◌, ◌&&◌, nat_le, nat_lt, if◌then◌else◌, List, [], ◌∷◌, ◌++◌, length, take, drop, slice_index, Option, Some, None}

-- the old bytes with these in the place of those from off on
abbrev pub overwritten : (off : ℕ) (bytes old : List ℕ) → List ℕ
overwritten off bytes old = take off old ++ bytes ++ drop (off + length bytes) old

-- n bytes from off on may be any, and no other byte has changed
pub record ChangesWithin (off n : ℕ) (old new : List ℕ) : Type 0 where
  pub size : length new ≡ length old
  pub before : take off new ≡ take off old
  pub after : drop (off + n) new ≡ drop (off + n) old

-- the byte at place x, where these bytes replace those from off on
abbrev pub byte_at : (x byte off : ℕ) (bytes : List ℕ) → ℕ
byte_at x byte off bytes = if nat_le off x && nat_lt x (off + length bytes) then slice_index bytes (x - off) else byte

-- A part of a list that begins at place p, where these bytes replace those from off on. The part may lie anywhere
-- to the range: so it says what a write leaves of one block, and what a read brings into one buffer.
unfoldable pub replaced : (p : ℕ) (part : List ℕ) (off : ℕ) (bytes : List ℕ) → List ℕ
replaced p [] off bytes = []
replaced p (b ∷ bs) off bytes = byte_at p b off bytes ∷ replaced (p + 1) bs off bytes

-- what bytes that stand at a place, where there are any, have at place x; 0 elsewhere
abbrev pub byte_of : Option (ℕ × List ℕ) → (x : ℕ) → ℕ
byte_of None x = 0
byte_of (Some placed) x = byte_at x 0 placed.0 placed.1
