-- What a reader finds of a record in a text.
use Rattle.std.specs.Prelude.{◌≡◌, ℕ, ◌+◌, ◌≤◌, List, length, take}
use Rattle.cod_record.specs.Record.{IsRecord, IsSparseRange, Range, range_text, Record}
use Rattle.cod_record.specs.declared.parts.Found.{Found}

-- the text begins with a range of the second version, from a place on
pub record BeginsRange (text : List ℕ) (from : ℕ) (g : Range) : Type 0 where
  pub low : from ≤ g.off
  pub is : IsSparseRange g
  pub text_is : take (8 + length g.bytes) text ≡ range_text g

-- what is told of a record
abbrev pub found_of : (version : ℕ) → Record → Found
found_of version r = record { block = r.block; number = r.number; version = version; ranges = length r.ranges }

-- a record, as it is told and of so many bytes, begins the text
pub record IsFound (f : Found) (size : ℕ) (text : List ℕ) : Type 0 where
  pub version : ℕ
  pub whole : Record
  pub told : f ≡ found_of version whole
  pub within : size ≤ length text
  pub is : IsRecord version whole (take size text)

-- some record begins the text
pub record BeginsRecord (text : List ℕ) : Type 0 where
  pub version : ℕ
  pub whole : Record
  pub size : ℕ
  pub is : IsRecord version whole (take size text)
