-- What is known of a call that its own numbers don't refuse.
use Rattle.std.specs.Prelude.{◌≡◌, ℕ, ◌+◌, ◌≤◌, List, length, None}
use Rattle.cod_types.specs.Limits.{Shape, segment_length}
use Rattle.cod_types.specs.Plain.{refusal}
use Rattle.cod_types.specs.declared.call.Call.TheVariants.{Read, Write, Swap, Put}

-- an update's bytes lie in the segment, and are no more than an update may have
pub record IsUpdate (g : Shape) (off : ℕ) (bytes : List ℕ) : Type 0 where
  pub inside : off + length bytes ≤ segment_length g
  pub short : length bytes ≤ g.update

-- a read that isn't refused lies in the segment
abbrev pub ReadsInside : Type 0
ReadsInside = (g : Shape) (off len : ℕ) → refusal g (Read off len) ≡ None → off + len ≤ segment_length g

-- a write that isn't refused is an update
abbrev pub WritesUpdate : Type 0
WritesUpdate = (g : Shape) (off : ℕ) (bytes : List ℕ) → refusal g (Write off bytes) ≡ None → IsUpdate g off bytes

-- a swap that isn't refused is an update, with as many bytes as it takes the place of
pub record IsSwap (g : Shape) (off : ℕ) (old new : List ℕ) : Type 0 where
  pub update : IsUpdate g off new
  pub same : length new ≡ length old

abbrev pub SwapsUpdate : Type 0
SwapsUpdate = (g : Shape) (off : ℕ) (old new : List ℕ) → refusal g (Swap off old new) ≡ None → IsSwap g off old new

-- a put that isn't refused has the bytes of the whole segment
abbrev pub PutsWhole : Type 0
PutsWhole = (g : Shape) (bytes : List ℕ) → refusal g (Put bytes) ≡ None → length bytes ≡ segment_length g
