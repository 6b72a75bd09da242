-- What the claims of a call leave at each block.
use Rattle.std.specs.Prelude.{◌≡◌, ℕ, ◌<◌, ◌≤◌, ◌==◌, if◌then◌else◌, Option, Some, List, [], ◌∷◌, length, map, get_or}
use Rattle.cod_types.specs.declared.call.Call.TheVariants.{Merge}
use Rattle.cod_types.specs.declared.call.Caller.{Caller}
use Rattle.cod_layout.specs.Parts.{length_in, part_in, parts_of}
use Rattle.cod_claims.specs.Changes.{Change, blank}
use Rattle.cod_claims.specs.declared.claim.Claim.{Claim}
use Rattle.cod_claims.specs.Claimed.{claim_at, claim_of, with_claims}

-- the change of block j, where there is one
abbrev pub change_on : (j : ℕ) → List Change → Change
change_on j [] = blank Merge 0 0 (record { block = 0; off = 0; len = 0 })
change_on j (x ∷ xs) = if x.part.block == j then x else change_on j xs

-- the change of block j is one of these
pub record IsAmong (j : ℕ) (xs : List Change) : Type 0 where
  pub at : ℕ
  pub below : at < length xs
  pub is : (d : Change) → get_or xs at d ≡ change_on j xs

-- Claims for the changes of a range's parts: each block that the range meets has the claim of its change, and each other
-- block what it had.
pub record LeaveClaims (caller : Caller) (number k block off len : ℕ) (xs : List Change) (cs after : List (Option Claim)) : Type 0 where
  pub claimed : (j : ℕ) → j < k → 0 < length_in block off len j → claim_at after j ≡ Some (claim_of caller number (change_on j xs))
  pub among : (j : ℕ) → j < k → 0 < length_in block off len j → IsAmong j xs
  pub place : (j : ℕ) → j < k → 0 < length_in block off len j → (change_on j xs).part ≡ part_in block off len j
  pub others : (j : ℕ) → (j < k → length_in block off len j ≤ 0) → claim_at after j ≡ claim_at cs j
  pub size : length after ≡ length cs

abbrev pub ClaimsLeave : Type 0
ClaimsLeave =
    (caller : Caller) (number k block off len : ℕ) (xs : List Change) (cs : List (Option Claim))
    → map (λ (x : Change). x.part) xs ≡ parts_of k block off len → k ≤ length cs
    → LeaveClaims caller number k block off len xs cs (with_claims caller number xs cs)
