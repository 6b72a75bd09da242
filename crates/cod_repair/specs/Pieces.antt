-- What a piece of a column is made from.
use Rattle.std.specs.Prelude.{◌≡◌, ◌+◌, ◌*◌, ℕ, zero, suc, List, [], slice_index, slice_index_or, bit_xor, Option, Bool, true, if◌then◌else◌}
use Rattle.cod_types.specs.Overwritten.{byte_of}
use Rattle.cod_field.specs.Field.{product}
use Rattle.cod_claims.specs.Claimed.{claim_at, kept_of}
use Rattle.cod_claims.specs.declared.claim.Claim.{Claim}
use Rattle.cod_code.specs.Segments.{column_byte}
use Rattle.cod_seg.specs.Seg.{Col, col_at}
use Rattle.cod_repair.specs.Columns.{HasValue, is_source}

-- what the applied delta of column i's claim adds to its bytes
abbrev pub kept_byte : List (Option Claim) → (i x : ℕ) → ℕ
kept_byte claims i x = byte_of (kept_of (claim_at claims i)) x

-- the sum of the bytes of the first m columns at a place, each times its coefficient
abbrev pub sum_of : (row : List ℕ) (byte : ℕ → ℕ) (m : ℕ) → ℕ
sum_of row byte zero = 0
sum_of row byte (suc m) = bit_xor (sum_of row byte m) (product (slice_index row m) (byte m))

-- What stands at a place with the first so many bytes added, each times its coefficient. What stands in fresh bytes doesn't count.
abbrev pub with_bytes : (fresh : Bool) (into coefs : List ℕ) (byte : ℕ → ℕ) (held x : ℕ) → ℕ
with_bytes fresh into coefs byte held x = bit_xor (if fresh then 0 else slice_index into x) (sum_of coefs byte held)

-- the same with the bytes that are there in the first lent slices
abbrev pub with_lent : (fresh : Bool) (into coefs : List ℕ) (lent : List (List ℕ)) (held x : ℕ) → ℕ
with_lent fresh into coefs lent held x = with_bytes fresh into coefs (λ j. slice_index (slice_index_or lent j []) x) held x

-- the same with the bytes that are there in the first windows
abbrev pub with_windows : (fresh : Bool) (into coefs windows : List ℕ) (len held x : ℕ) → ℕ
with_windows fresh into coefs windows len held x = with_bytes fresh into coefs (λ j. slice_index windows (j * len + x)) held x

-- each of the k lowest live columns has at the cut the value of that column of the segment
abbrev pub AreOf : (k block : ℕ) (segment : List ℕ) (claims : List (Option Claim)) (cuts : List ℕ) → List Col → Type 0
AreOf k block segment claims cuts cols =
    (i : ℕ) → is_source k cols i ≡ true → HasValue (col_at cols i) cuts (kept_byte claims i) (column_byte k block i segment)
