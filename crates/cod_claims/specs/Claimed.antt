-- The claims of a segment: for each of 16 blocks at most one.
use Rattle.std.specs.Prelude.{◌≡◌, ◌≢◌, ℕ, ◌<◌, Bool, true, false, not, ◌==◌, ◌&&◌, if◌then◌else◌, List, [], ◌∷◌, is_some, length, map, find, replicate}
use Rattle.std.specs.Prelude.{slice_set, slice_index_or, All, Option, Some, None, option_map, option_and_then}
use Rattle.std.specs.List.{range_with_len, AllPairs}
use Rattle.std.specs.Int.{bit_at}
use Rattle.cod_types.specs.Overwritten.{byte_of}
use Rattle.cod_types.specs.declared.call.Call.{Call}
use Rattle.cod_types.specs.declared.call.Caller.{Caller}
use Rattle.cod_claims.specs.Changes.{Change, LiesInside, new_in}
use Rattle.cod_claims.specs.declared.claim.Claim.{Claim}
use Rattle.cod_claims.specs.declared.claims.Held.{Held}

-- the claim of block j
abbrev pub claim_at : List (Option Claim) → ℕ → Option Claim
claim_at cs j = slice_index_or cs j None

-- no block is claimed
abbrev pub unclaimed : List (Option Claim)
unclaimed = replicate 16 None

-- the caller has this claim
abbrev pub is_of : (caller : ℕ) → Option Claim → Bool
is_of caller None = false
is_of caller (Some c) = c.owner.0 == caller

-- another caller has it
abbrev pub is_others : (caller : ℕ) → Option Claim → Bool
is_others caller None = false
is_others caller (Some c) = not (c.owner.0 == caller)

-- the caller has no claim
abbrev pub HasNone : (caller : ℕ) → List (Option Claim) → Type 0
HasNone caller cs = All (λ c. is_of caller c ≡ false) cs

-- whether a block is among the wanted ones, of which there is bit j for block j
abbrev pub is_wanted : (wanted j : ℕ) → Bool
is_wanted wanted j = bit_at wanted j == 1

-- whether block j is wanted, and another caller's
abbrev pub is_contested : (wanted caller : ℕ) → List (Option Claim) → ℕ → Bool
is_contested wanted caller cs j = is_wanted wanted j && is_others caller (claim_at cs j)

-- who has a claim
abbrev pub holder : Option Claim → Option Held
holder c = option_map (λ claim. record { owner = claim.owner; number = claim.number }) c

-- the holder of the lowest wanted block that is another caller's
abbrev pub first_holder : (wanted caller : ℕ) → List (Option Claim) → Option Held
first_holder wanted caller cs = option_and_then (λ j. holder (claim_at cs j)) (find (is_contested wanted caller cs) (range_with_len 0 16))

-- a claim that was just made
abbrev pub claim_of : Caller → (number : ℕ) → Change → Claim
claim_of caller number change =
    record { owner = caller; number = number; delta = change; applied = false; noted = replicate 16 None }

-- with a claim on the block of each change
abbrev pub with_claims : Caller → (number : ℕ) → List Change → List (Option Claim) → List (Option Claim)
with_claims caller number [] cs = cs
with_claims caller number (change ∷ changes) cs =
    with_claims caller number changes (slice_set cs change.part.block (Some (claim_of caller number change)))

-- the place in its block of a claim's delta, with the delta's bytes
abbrev pub delta_of : Option Claim → Option (ℕ × List ℕ)
delta_of c = option_map (λ claim. (claim.delta.part.off, claim.delta.bytes)) c

-- the same where the delta was applied in place
abbrev pub kept_of : Option Claim → Option (ℕ × List ℕ)
kept_of None = None
kept_of (Some c) = if c.applied then Some (c.delta.part.off, c.delta.bytes) else None

-- the new bytes that a claim's call brings to its part of the block
abbrev pub brought_by : Option Claim → Option (List ℕ)
brought_by c = option_map (λ claim. new_in claim.delta) c

-- whether the delta was applied
abbrev pub is_applied : Option Claim → Bool
is_applied None = false
is_applied (Some c) = c.applied

-- how long the column's record of it is, where the column has one
abbrev pub noted_length : (col : ℕ) → Option Claim → Option ℕ
noted_length col None = None
noted_length col (Some c) = slice_index_or c.noted col None

-- whether the column has a record of it
abbrev pub is_noted : (col : ℕ) → Option Claim → Bool
is_noted col c = is_some (noted_length col c)

-- the claim's delta was applied
abbrev pub applied : Option Claim → Option Claim
applied None = None
applied (Some c) = Some (record c { applied = true })

-- the column has a record of it, so many bytes long
abbrev pub noted : (col len : ℕ) → Option Claim → Option Claim
noted col len None = None
noted col len (Some c) = Some (record c { noted = slice_set c.noted col (Some len) })

-- without the marks on the column: that it has a record, and where it is the claim's own data column, that it was applied
abbrev pub forgotten : (col : ℕ) → Option Claim → Option Claim
forgotten col None = None
forgotten col (Some c) =
    Some (record c { applied = if c.delta.part.block == col then false else c.applied; noted = slice_set c.noted col None })

abbrev pub with_applied : (j : ℕ) → List (Option Claim) → List (Option Claim)
with_applied j cs = slice_set cs j (applied (claim_at cs j))

abbrev pub with_note : (j col len : ℕ) → List (Option Claim) → List (Option Claim)
with_note j col len cs = slice_set cs j (noted col len (claim_at cs j))

abbrev pub without_marks : (col : ℕ) → List (Option Claim) → List (Option Claim)
without_marks col cs = map (forgotten col) cs

-- without the caller's claims
abbrev pub released : (caller : ℕ) → Option Claim → Option Claim
released caller c = if is_of caller c then None else c

abbrev pub without_claims : (caller : ℕ) → List (Option Claim) → List (Option Claim)
without_claims caller cs = map (released caller) cs

-- the call that a caller has claims for, with its number
abbrev pub open_call : (caller : ℕ) → List (Option Claim) → Option (ℕ × Call)
open_call caller [] = None
open_call caller (None ∷ cs) = open_call caller cs
open_call caller (Some c ∷ cs) = if c.owner.0 == caller then Some (c.number, c.delta.call) else open_call caller cs

-- Claims of 16 blocks. Each has the delta of the block that it is on, for a part that lies in its call's new bytes, and all
-- claims of a caller are for one call.
pub record AreClaims (cs : List (Option Claim)) : Type 0 where
  pub blocks : length cs ≡ 16
  pub inside : (j : ℕ) (c : Claim) → claim_at cs j ≡ Some c → LiesInside c.delta
  pub own : (j : ℕ) (c : Claim) → claim_at cs j ≡ Some c → c.delta.part.block ≡ j
  pub marks : (j : ℕ) (c : Claim) → claim_at cs j ≡ Some c → length c.noted ≡ 16
  pub one_call : (i j : ℕ) (c d : Claim) → claim_at cs i ≡ Some c → claim_at cs j ≡ Some d → c.owner.0 ≡ d.owner.0
      → (c.number ≡ d.number) × (c.delta.call ≡ d.delta.call)

-- a caller that has a claim has that claim's call open, with its number
abbrev pub OpensCall : Type 0
OpensCall = (cs : List (Option Claim)) (j : ℕ) (c : Claim) → AreClaims cs → claim_at cs j ≡ Some c → open_call c.owner.0 cs ≡ Some (c.number, c.delta.call)

-- A caller's open call is that of a claim of the caller's.
pub record IsOpenBy (caller number : ℕ) (call : Call) (cs : List (Option Claim)) : Type 0 where
  pub block : ℕ
  pub claim : Claim
  pub there : claim_at cs block ≡ Some claim
  pub owner : claim.owner.0 ≡ caller
  pub number_is : claim.number ≡ number
  pub call_is : claim.delta.call ≡ call

abbrev pub OpensByClaim : Type 0
OpensByClaim = (cs : List (Option Claim)) (caller number : ℕ) (call : Call) → open_call caller cs ≡ Some (number, call) → IsOpenBy caller number call cs

-- a caller without a claim has none
abbrev pub OpensNone : Type 0
OpensNone = (cs : List (Option Claim)) (caller : ℕ) → HasNone caller cs → open_call caller cs ≡ None

-- a caller that had no claim has the call open that it has made claims for
abbrev pub ClaimsOpen : Type 0
ClaimsOpen =
    (caller : Caller) (number : ℕ) (call : Call) (change : Change) (changes : List Change) (cs : List (Option Claim))
    → AreClaims cs → HasNone caller.0 cs → All (λ c. c.part.block < 16) (change ∷ changes) → All (λ c. c.call ≡ call) (change ∷ changes)
    → open_call caller.0 (with_claims caller number (change ∷ changes) cs) ≡ Some (number, call)

-- a caller's claims of unclaimed blocks leave what others have open
abbrev pub ClaimsLeaveOthers : Type 0
ClaimsLeaveOthers =
    (caller : Caller) (number other : ℕ) (changes : List Change) (cs : List (Option Claim))
    → caller.0 ≢ other → AllPairs (λ c later. c.part.block ≢ later.part.block) changes → All (λ c. claim_at cs c.part.block ≡ None) changes
    → open_call other (with_claims caller number changes cs) ≡ open_call other cs

-- released, a caller has nothing open, and what others have open stays
abbrev pub ReleasesOne : Type 0
ReleasesOne =
    (caller other : ℕ) (cs : List (Option Claim))
    → (open_call caller (without_claims caller cs) ≡ None) × (other ≢ caller → open_call other (without_claims caller cs) ≡ open_call other cs)

-- where no wanted block is another caller's, and the caller has no claim, no wanted block is claimed
abbrev pub FreeOfOthers : Type 0
FreeOfOthers =
    (cs : List (Option Claim)) (caller wanted j : ℕ) → first_holder wanted caller cs ≡ None → HasNone caller cs → j < 16 → is_wanted wanted j ≡ true
    → claim_at cs j ≡ None

-- what a claim's kept delta adds at place x of its block: what its delta has there, where it was applied, and else nothing
abbrev pub KeepsApplied : Type 0
KeepsApplied = (c : Option Claim) (x : ℕ) → byte_of (kept_of c) x ≡ (if is_applied c then byte_of (delta_of c) x else 0)
