-- A record: the text of an update of a block, as ranges of bytes with their places in the block.
use Rattle.std.specs.Prelude.{◌≡◌, ◌≢◌, ◌⊎◌, ℕ, ◌+◌, ◌-◌, ◌<◌, ◌≤◌, ◌^◌, ◌==◌, if◌then◌else◌, List, [], ◌∷◌, ◌++◌, length, slice_index, ⊤}
use Rattle.std.specs.List.{flat_map, AllByRecursion}
use Rattle.byteorder.specs.Endian.{big_bytes}
use Rattle.cod_types.specs.Overwritten.{byte_at}

-- bytes, and the place of the first of them
pub record Range : Type 0 where
  pub off : ℕ
  pub bytes : List ℕ

abbrev pub range : (off : ℕ) (bytes : List ℕ) → Range
range off bytes = record { off = off; bytes = bytes }

-- the place behind a range
abbrev pub end_of : Range → ℕ
end_of g = g.off + length g.bytes

-- the block that was changed, the number of the update, and by which bytes
pub record Record : Type 0 where
  pub block : ℕ
  pub number : ℕ
  pub ranges : List Range

-- the place, how many bytes, and the bytes
unfoldable pub range_text : Range → List ℕ
range_text g = big_bytes 4 g.off ++ (big_bytes 4 (length g.bytes) ++ g.bytes)

-- the ranges' texts, one after another
abbrev pub ranges_text : List Range → List ℕ
ranges_text gs = flat_map range_text gs

-- how many ranges there are, which the first version doesn't write
unfoldable pub count_text : (version : ℕ) (ranges : List Range) → List ℕ
count_text version gs = if version == 2 then big_bytes 2 (length gs) else []

-- the version, the block, the number, the count of ranges, and the ranges
unfoldable pub record_text : (version : ℕ) → Record → List ℕ
record_text version r = version ∷ (big_bytes 2 r.block ++ (big_bytes 8 r.number ++ (count_text version r.ranges ++ ranges_text r.ranges)))

-- eight zeros stand from place i on
abbrev pub EightZeros : (bytes : List ℕ) (i : ℕ) → Type 0
EightZeros bytes i = (j : ℕ) → i ≤ j → j < i + 8 → slice_index bytes j ≡ 0

-- a range of the second version: neither its first byte nor its last is 0, and no eight zeros stand in it
pub record IsSparseRange (g : Range) : Type 0 where
  pub some : 0 < length g.bytes
  pub fits : end_of g < 2 ^ 32
  pub first : slice_index g.bytes 0 ≢ 0
  pub last : slice_index g.bytes (length g.bytes - 1) ≢ 0
  pub no_run : (i : ℕ) → i + 8 ≤ length g.bytes → EightZeros g.bytes i → ⊥

-- ranges of the second version from a place on, each at least eight places behind the one before
abbrev pub AreSparse : (from : ℕ) → List Range → Type 0
AreSparse from [] = ⊤
AreSparse from (g ∷ gs) = (from ≤ g.off) × IsSparseRange g × AreSparse (end_of g + 8) gs

-- the ranges of the first version: one, whatever its bytes
pub record IsOneRange (gs : List Range) : Type 0 where
  pub one : Range
  pub is : gs ≡ one ∷ []
  pub fits : one.off < 2 ^ 32

-- The text is a record's, in one of the two versions. So the numbers fit their places.
pub record IsRecord (version : ℕ) (r : Record) (text : List ℕ) : Type 0 where
  pub known : (version ≡ 1) ⊎ (version ≡ 2)
  pub block : r.block < 2 ^ 16
  pub number : r.number < 2 ^ 64
  pub first_version : version ≡ 1 → IsOneRange r.ranges
  pub second_version : version ≡ 2 → AreSparse 0 r.ranges
  pub count : length r.ranges < 2 ^ 16
  pub size : length text < 2 ^ 32
  pub text_is : text ≡ record_text version r

-- each range ends at this place or before
abbrev pub AreInside : (end : ℕ) → List Range → Type 0
AreInside end ranges = AllByRecursion (λ range. end_of range ≤ end) ranges

-- the byte at place x, where ranges are written over zeros
abbrev pub range_byte : List Range → (x : ℕ) → ℕ
range_byte [] x = 0
range_byte (g ∷ gs) x = byte_at x (range_byte gs x) g.off g.bytes
