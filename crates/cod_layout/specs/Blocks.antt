-- A segment's bytes as its blocks, and ranges that are read from them part by part.
use Rattle.std.specs.Prelude.{◌≡◌, ℕ, ◌+◌, ◌-◌, ◌*◌, ◌≤◌, List, [], ◌∷◌, map, length, get_or}
use Rattle.std.specs.List.{range_with_len, flat_map}
use Rattle.cod_types.specs.Overwritten.{overwritten}
use Rattle.cod_types.specs.Plain.{bytes_at}
use Rattle.cod_layout.specs.declared.parts.Part.{Part}
use Rattle.cod_layout.specs.Parts.{parts_of, place_of}

-- the j-th block of these bytes
abbrev pub block_of : (block j : ℕ) → List ℕ → List ℕ
block_of block j b = bytes_at b (j * block) block

-- the n blocks from the j-th on
abbrev pub blocks_among : (block j n : ℕ) → List ℕ → List (List ℕ)
blocks_among block j n b = map (λ i. block_of block i b) (range_with_len j n)

-- these bytes as k blocks
abbrev pub blocks_of : (k block : ℕ) → List ℕ → List (List ℕ)
blocks_of k block b = blocks_among block 0 k b

-- what a part has of its block
abbrev pub bytes_in : List (List ℕ) → Part → List ℕ
bytes_in blocks part = bytes_at (get_or blocks part.block []) part.off part.len

-- the bytes that are read part after part
abbrev pub read_parts : List (List ℕ) → List Part → List ℕ
read_parts blocks parts = flat_map (bytes_in blocks) parts

-- a buffer for a range that begins at off, after each part was brought to its place in it
abbrev pub fill_parts : (block off : ℕ) → List (List ℕ) → List Part → List ℕ → List ℕ
fill_parts block off blocks [] into = into
fill_parts block off blocks (part ∷ parts) into =
    fill_parts block off blocks parts (overwritten (place_of block part - off) (bytes_in blocks part) into)

-- a range is read by its parts
abbrev pub ReadsByParts : Type 0
ReadsByParts = (k block off len : ℕ) (b : List ℕ) → length b ≡ k * block → off + len ≤ k * block
    → read_parts (blocks_of k block b) (parts_of k block off len) ≡ bytes_at b off len

-- a buffer of the range's length is filled by its parts, whatever it held
abbrev pub FillsByParts : Type 0
FillsByParts = (k block off : ℕ) (b into : List ℕ) → length b ≡ k * block → off + length into ≤ k * block
    → fill_parts block off (blocks_of k block b) (parts_of k block off (length into)) into ≡ bytes_at b off (length into)
