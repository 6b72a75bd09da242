-- What an update changes, part by part.
use Rattle.std.specs.Prelude.{◌≡◌, ℕ, ◌+◌, ◌-◌, ◌≤◌, length, slice_index, bit_xor, List, [], replicate, flat_map}
use Rattle.cod_types.specs.Plain.{bytes_at}
use Rattle.cod_types.specs.declared.call.Call.{Call}
use Rattle.cod_types.specs.declared.call.Call.TheVariants.{Write, Swap}
use Rattle.cod_layout.specs.declared.parts.Part.{Part}
use Rattle.cod_layout.specs.Parts.{place_of}
use Rattle.cod_kernel.specs.Sums.{added}

-- The change of one block: the call that it is made for, that call's part in the block, where in the call's new bytes the
-- part begins, and the change's bytes.
pub record Change : Type 0 where
  pub call : Call
  pub part : Part
  pub at : ℕ
  pub bytes : List ℕ

-- the bytes that a call brings to its range
abbrev pub new_bytes : Call → List ℕ
new_bytes (Write off bytes) = bytes
new_bytes (Swap off old new) = new
new_bytes _ = []

-- those that it brings to the part
abbrev pub new_in : Change → List ℕ
new_in c = bytes_at (new_bytes c.call) c.at c.part.len

-- a change of zeros, for a call whose range begins at off
abbrev pub blank : (call : Call) (block off : ℕ) → Part → Change
blank call block off part = record { call = call; part = part; at = place_of block part - off; bytes = replicate part.len 0 }

-- the change that brings the call's new bytes where the old ones are those that it has
abbrev pub made : Change → Change
made c = record c { bytes = added c.bytes (new_in c) }

-- the bytes of all changes, end to end
abbrev pub joined : List Change → List ℕ
joined cs = flat_map (λ c. c.bytes) cs

-- A delta between old bytes and new ones: at each place it is the one xor the other.
pub record IsDelta (old new delta : List ℕ) : Type 0 where
  pub size : length delta ≡ length old
  pub places : (i : ℕ) → slice_index delta i ≡ bit_xor (slice_index old i) (slice_index new i)

-- the part of a change lies in its call's new bytes
abbrev pub LiesInside : Change → Type 0
LiesInside c = c.at + c.part.len ≤ length (new_bytes c.call)

-- a change that is made is the delta between the bytes that it had and those that its call brings
abbrev pub MakesDelta : Type 0
MakesDelta = (c : Change) → length c.bytes ≡ c.part.len → LiesInside c → IsDelta c.bytes (new_in c) (made c).bytes
