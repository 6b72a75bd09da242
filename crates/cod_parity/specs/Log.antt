-- The log behind a parity block: records of either version, and what they add to the block.
use Rattle.std.specs.Prelude.{◌≡◌, ℕ, ◌+◌, ◌-◌, ◌<◌, ◌≤◌, ◌^◌, ◌==◌, ◌⊎◌, Bool, if◌then◌else◌, List, [], ◌∷◌, length, map, slice_index, slice_set, replicate}
use Rattle.std.specs.Prelude.{min, bit_xor, nat_lt}
use Rattle.cod_field.specs.Field.{product}
use Rattle.cod_record.specs.declared.parts.Head.{Head}
use Rattle.cod_record.specs.Head.{head_record}
use Rattle.cod_record.specs.Record.{AreInside, IsRecord, range_byte, Record, record_text}
use Rattle.cod_record.specs.Sparse.{ranges_of, sparse_length, sparse_record}
use Rattle.cod_types.specs.Limits.{Shape}

-- a record, and the version that its text has
pub record Logged : Type 0 where
  pub version : ℕ
  pub whole : Record

unfoldable pub text : Logged → List ℕ
text l = record_text l.version l.whole

-- the record is of one of the data blocks, and each of its ranges lies inside a block
pub record IsIn (g : Shape) (l : Logged) : Type 0 where
  pub is : IsRecord l.version l.whole (text l)
  pub block : l.whole.block < g.k
  pub inside : AreInside g.block l.whole.ranges

-- its number is past the cut of its block
abbrev pub is_past : (cuts : List ℕ) → Logged → Bool
is_past cuts l = nat_lt (slice_index cuts l.whole.block) l.whole.number

-- what a record adds at place x: its byte there, where it is at or below the cut
unfoldable pub share : (cuts : List ℕ) → Logged → (x : ℕ) → ℕ
share cuts l x = if is_past cuts l then 0 else range_byte l.whole.ranges x

-- what the records at or below the cut add at place x
abbrev pub change : (cuts : List ℕ) → List Logged → (x : ℕ) → ℕ
change cuts [] x = 0
change cuts (l ∷ ls) x = bit_xor (share cuts l x) (change cuts ls x)

-- the block's value at the cut: at each place the base with what the records at or below the cut add
pub record IsValue (cuts base : List ℕ) (records : List Logged) (value : List ℕ) : Type 0 where
  pub size : length value ≡ length base
  pub each : (x : ℕ) → slice_index value x ≡ bit_xor (slice_index base x) (change cuts records x)

-- where no record is: the greatest number of 64 bits for each block
unfoldable pub no_lowest : List ℕ
no_lowest = replicate 16 (2 ^ 64 - 1)

-- the least number of each block, with one record more
unfoldable pub note : (low : List ℕ) → Logged → List ℕ
note low l = slice_set low l.whole.block (min (slice_index low l.whole.block) l.whole.number)

-- the least numbers, with these records more
abbrev pub lowest_from : (low : List ℕ) → List Logged → List ℕ
lowest_from low [] = low
lowest_from low (l ∷ ls) = lowest_from (note low l) ls

-- some block's least number is at or below its cut
abbrev pub IsDue : (low cuts : List ℕ) → Type 0
IsDue low cuts = (j : ℕ) × (j < 16) × (slice_index low j ≤ slice_index cuts j)

-- no cut has reached its type's end
abbrev pub AreBelowEnd : (cuts : List ℕ) → Type 0
AreBelowEnd cuts = (j : ℕ) → j < 16 → slice_index cuts j < 2 ^ 64 - 1

-- some record is at or below its cut
abbrev pub IsIncluded : (cuts : List ℕ) → List Logged → Type 0
IsIncluded cuts [] = ⊥
IsIncluded cuts (l ∷ ls) = (l.whole.number ≤ slice_index cuts l.whole.block) ⊎ IsIncluded cuts ls

-- a coefficient times each byte
abbrev pub scaled : (coef : ℕ) (bytes : List ℕ) → List ℕ
scaled coef bytes = map (product coef) bytes

-- the record of bytes at a place, in either version
unfoldable pub logged : (version : ℕ) (h : Head) (bytes : List ℕ) → Logged
logged version h bytes =
    record { version = version; whole = if version == 2 then sparse_record h.block h.number h.off bytes else head_record h bytes }

-- and how many bytes its text has
unfoldable pub logged_length : (version : ℕ) (h : Head) (bytes : List ℕ) → ℕ
logged_length version h bytes = if version == 2 then sparse_length (ranges_of h.off bytes) else 19 + length bytes
