-- The parts of a segment's range: what it has of each block that it meets.
use Rattle.std.specs.Prelude.{◌≡◌, ℕ, ◌+◌, ◌-◌, ◌*◌, ◌<◌, ◌≤◌, nat_lt, List, map, filter, max, min, All}
use Rattle.std.specs.List.{range_with_len, flat_map, AllPairs}
use Rattle.cod_layout.specs.declared.parts.Part.{Part}

-- where in the j-th block the range from off on begins
abbrev pub begin_in : (block off j : ℕ) → ℕ
begin_in block off j = max off (j * block) - j * block

-- how many of the range's len places lie in the j-th block
abbrev pub length_in : (block off len j : ℕ) → ℕ
length_in block off len j = min (off + len) (j * block + block) - max off (j * block)

-- what the range has of the j-th block
abbrev pub part_in : (block off len j : ℕ) → Part
part_in block off len j = record { block = j; off = begin_in block off j; len = length_in block off len j }

-- the parts in the n blocks from the j-th on, without the empty ones
abbrev pub parts_among : (block off len j n : ℕ) → List Part
parts_among block off len j n = filter (λ part. nat_lt 0 part.len) (map (part_in block off len) (range_with_len j n))

-- the parts of a range of a segment of k blocks
abbrev pub parts_of : (k block off len : ℕ) → List Part
parts_of k block off len = parts_among block off len 0 k

-- the place in the segment where a part begins
abbrev pub place_of : (block : ℕ) → Part → ℕ
place_of block part = part.block * block + part.off

-- a part has bytes, all of them in one block of the k
pub record IsInside (k block : ℕ) (part : Part) : Type 0 where
  pub some : 1 ≤ part.len
  pub among : part.block < k
  pub within : part.off + part.len ≤ block

-- each part lies in a block of its own, in the order of the blocks; put end to end they are the places of the range and no other
pub record IsSplit (k block off len : ℕ) (parts : List Part) : Type 0 where
  pub inside : All (IsInside k block) parts
  pub rising : AllPairs (λ part later. part.block < later.block) parts
  pub covers : flat_map (λ part. range_with_len (place_of block part) part.len) parts ≡ range_with_len off len
