-- Where a claim's part lies.
use Rattle.std.specs.Prelude.{◌≡◌, ℕ, ◌+◌, ◌≤◌, length}
use Rattle.cod_claims.specs.declared.claim.Claim.{Claim}
use Rattle.cod_claims.specs.Changes.{new_in}

-- A claim's part has bytes and lies in its block, and its call brings as many to it.
pub record IsPlaced (block : ℕ) (c : Claim) : Type 0 where
  pub some : 1 ≤ length c.delta.bytes
  pub long : length (new_in c.delta) ≡ length c.delta.bytes
  pub inside : c.delta.part.off + length c.delta.bytes ≤ block
