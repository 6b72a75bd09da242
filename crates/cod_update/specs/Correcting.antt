-- What a commit does to the target of a rebuild.
use Rattle.std.specs.Prelude.{◌≡◌, ◌⊎◌, ℕ, ◌<◌, ◌≤◌, ◌==◌, ◌&&◌, ◌||◌, nat_le, nat_lt, if◌then◌else◌, bit_xor, Bool, true, List, length, slice_index, slice_set, Option, Some, None}
use Rattle.cod_types.specs.Limits.{Shape}
use Rattle.cod_types.specs.Overwritten.{byte_at, byte_of}
use Rattle.cod_field.specs.Field.{product}
use Rattle.cod_code.specs.Columns.{gamma}
use Rattle.cod_claims.specs.declared.claim.Claim.{Claim}
use Rattle.cod_claims.specs.Changes.{new_in}
use Rattle.cod_claims.specs.Claimed.{claim_at, delta_of}
use Rattle.cod_seg.specs.Calls.{Cost, costs, touched_below}
use Rattle.cod_seg.specs.Seg.{Rebuilding, Target}
use Rattle.cod_seg.specs.Steps.{added_to, KeepsTarget, own_byte}
use Rattle.cod_segment.specs.Events.{Counts}
use Rattle.cod_update.specs.Placing.{IsPlaced}

-- where the target tells what it holds, the bytes that the claim's call brings are those that are there with its delta added
abbrev pub Changes : Claim → Target → Type 0
Changes c t = (held : List ℕ) → t.device.content ≡ Some held → (x : ℕ) → x < t.filled
    → byte_at x (slice_index held x) c.delta.part.off (new_in c.delta) ≡ bit_xor (slice_index held x) (byte_at x 0 c.delta.part.off c.delta.bytes)

-- A target has as many bytes as it is long, at least a block's, and of these its first ones are there.
pub record IsWhole (block : ℕ) (t : Target) : Type 0 where
  pub full : (held : List ℕ) → t.device.content ≡ Some held → length held ≡ t.device.size
  pub within : t.filled ≤ block
  pub size : block ≤ t.device.size

-- Claims can be brought to a target for a column.
pub record CanCorrect (g : Shape) (col : ℕ) (claims : List (Option Claim)) (t : Target) : Type 0 where
  pub few : g.k ≤ 16
  pub column : col < g.n
  pub whole : IsWhole g.block t
  pub placed : (j : ℕ) (c : Claim) → claim_at claims j ≡ Some c → IsPlaced g.block c
  pub changes : (c : Claim) → col < g.k → claim_at claims col ≡ Some c → Changes c t

-- what a claim of block j with such a delta adds to the bytes of a column: of a data column only that of its own block does
abbrev pub change_by : (k col j byte : ℕ) → ℕ
change_by k col j byte = if nat_lt col k then (if j == col then byte else 0) else product (gamma k col j) byte

-- so many reads and writes of a column's region
abbrev pub both_on : (k col n : ℕ) → Cost
both_on k col n = if nat_lt col k then costs 0 n else costs n n

-- whether it meets some of the first bytes
abbrev pub meets : (k col filled j : ℕ) → Claim → Bool
meets k col filled j c = (nat_le k col || (j == col)) && nat_lt c.delta.part.off filled

-- The claim of block j was brought to a target for a column.
pub record IsCorrectedBy (k col j : ℕ) (c : Claim) (old new : Target) : Type 0 where
  pub bytes : (before after : List ℕ) → old.device.content ≡ Some before → new.device.content ≡ Some after
      → (x : ℕ) → x < old.filled → slice_index after x ≡ bit_xor (slice_index before x) (change_by k col j (byte_of (delta_of (Some c)) x))
  pub keeps : KeepsTarget old new
  pub counts : Counts (both_on k col (if meets k col old.filled j c then 1 else 0)) old.device new.device

-- what the caller's claims of the first m blocks add to a column at a place
abbrev pub changed_by : (m k col caller : ℕ) → List (Option Claim) → (x : ℕ) → ℕ
changed_by m k col caller claims x =
    if nat_lt col k then (if nat_lt col m then own_byte caller claims x col else 0) else added_to m k col caller claims x

-- The caller's claims of the first m blocks were.
pub record IsCorrectedTo (m k col caller : ℕ) (claims : List (Option Claim)) (old new : Target) : Type 0 where
  pub bytes : (before after : List ℕ) → old.device.content ≡ Some before → new.device.content ≡ Some after
      → (x : ℕ) → x < old.filled → slice_index after x ≡ bit_xor (slice_index before x) (changed_by m k col caller claims x)
  pub keeps : KeepsTarget old new
  pub counts : Counts (both_on k col (touched_below m k col old.filled caller claims)) old.device new.device

-- A call of a target's region failed.
pub record HasFailed (old new : Target) : Type 0 where
  pub room : new.room ≡ old.room
  pub counted : 1 ≤ new.device.faults
  pub never_fails : new.device.never_fails ≡ old.device.never_fails
  pub frail : old.device.never_fails ≡ true → ⊥

-- A rebuild's target, if it has one, has the caller's claims now.
abbrev pub HasClaims : (k col caller : ℕ) (claims : List (Option Claim)) (old new : Option Target) → Type 0
HasClaims k col caller claims None new = new ≡ None
HasClaims k col caller claims (Some t) new = (u : Target) × (new ≡ Some u) × IsCorrectedTo k k col caller claims t u

-- The target failed: its node is broken, and it is let go.
pub record LetsGo (old new : Rebuilding) : Type 0 where
  pub t : Target
  pub count : ℕ
  pub goal : old.target ≡ Some t
  pub counted : 1 ≤ count
  pub frail : t.device.never_fails ≡ true → ⊥
  pub now : new ≡ record old { broken = slice_set old.broken t.room.node.0 (Some count); target = None }

-- One of these came of it.
abbrev pub Settles : (k caller : ℕ) (claims : List (Option Claim)) (old new : Rebuilding) → Type 0
Settles k caller claims old new =
    ((new ≡ record old { target = new.target }) × HasClaims k old.col caller claims old.target new.target) ⊎ LetsGo old new

-- the same of the rebuild in progress, where there is one
abbrev pub SettlesEach : (k caller : ℕ) (claims : List (Option Claim)) (old new : Option Rebuilding) → Type 0
SettlesEach k caller claims None new = new ≡ None
SettlesEach k caller claims (Some r) new = (q : Rebuilding) × (new ≡ Some q) × Settles k caller claims r q
