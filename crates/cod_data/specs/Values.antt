-- What a data column holds, and what it stands for.
use Rattle.std.specs.Prelude.{◌≡◌, ℕ, ◌+◌, ◌<◌, ◌≤◌, List, length, slice_index, bit_xor, Option, Some, None}
use Rattle.std.specs.Borrow.{Bor}
use Rattle.cod_types.specs.Overwritten.{overwritten}
use Rattle.cod_region.specs.Device.{Device}

-- bytes behind a reference, with their place in the block
abbrev pub placed : Option (ℕ × Bor (List ℕ)) → Option (ℕ × List ℕ)
placed None = None
placed (Some kept) = Some (kept.0, kept.1.now)

-- The column tells that at each place it holds the byte of the value, with the kept one added. It has no value where the content
-- isn't told.
pub record HasValue (d : Device) (kept value : ℕ → ℕ) : Type 0 where
  pub held : List ℕ
  pub told : d.content ≡ Some held
  pub each : (x : ℕ) → x < d.size → slice_index held x ≡ bit_xor (value x) (kept x)

-- A write that brings other bytes to a range leaves the value, where in the range the new bytes are the value's with what is
-- kept from then on, and elsewhere the same is kept.
abbrev pub ApplyKeepsValue : Type 0
ApplyKeepsValue =
    (d : Device) (held bytes : List ℕ) (off : ℕ) (kept later value : ℕ → ℕ)
    → length held ≡ d.size → off + length bytes ≤ d.size → d.content ≡ Some held → HasValue d kept value
    → ((i : ℕ) → i < length bytes → slice_index bytes i ≡ bit_xor (value (off + i)) (later (off + i)))
    → ((x : ℕ) → (x < off → later x ≡ kept x) × (off + length bytes ≤ x → later x ≡ kept x))
    → HasValue (record d { content = Some (overwritten off bytes held) }) later value

-- a column that holds the value's bytes has that value, with nothing kept
abbrev pub HoldsValue : Type 0
HoldsValue =
    (d : Device) (held : List ℕ) (value : ℕ → ℕ) → d.content ≡ Some held → ((x : ℕ) → x < d.size → slice_index held x ≡ value x) → HasValue d (λ _. 0) value

-- a column has one value
abbrev pub OneValue : Type 0
OneValue = (d : Device) (kept value other : ℕ → ℕ) → HasValue d kept value → HasValue d kept other → (x : ℕ) → x < d.size → value x ≡ other x
