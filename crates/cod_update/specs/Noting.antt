-- What is left of a segment by the record of a claim.
use Rattle.std.specs.Prelude.{◌≡◌, ℕ, ◌<◌, ◌≤◌, ◌^◌, length, Some, false, true}
use Rattle.cod_chronicle.specs.Said.{is_over}
use Rattle.cod_claims.specs.declared.claim.Claim.{Claim}
use Rattle.cod_claims.specs.Claimed.{claim_at, is_noted}
use Rattle.cod_seg.specs.Calls.{append_costs, record_length}
use Rattle.cod_seg.specs.Seg.{col_at, Seg}
use Rattle.cod_seg.specs.Sound.{Sound}
use Rattle.cod_seg.specs.Steps.{Notes}
use Rattle.cod_repair.specs.Columns.{state_at}
use Rattle.cod_segment.specs.Events.{Counts}

-- Parity column i is up, and block j has a claim of which it has no record.
pub record LacksRecord (s : Seg) (j i : ℕ) : Type 0 where
  pub sound : Sound s
  pub few : is_over s.site s.log ≡ false
  pub claim : Claim
  pub there : claim_at s.claims j ≡ Some claim
  pub fresh : is_noted i (claim_at s.claims j) ≡ false
  pub high : s.site.shape.k ≤ i
  pub below : i < s.site.shape.n
  pub up : (col_at s.cols i).is_up ≡ true
  pub room : length s.log < 2 ^ 63

-- The column has the record, and it is noted how long that is.
pub record HasRecord (j i : ℕ) (old new : Seg) : Type 0 where
  pub notes : Notes j i old new
  pub room : notes.column.room ≡ (col_at old.cols i).room
  pub counts : Counts (append_costs (record_length old j i (claim_at old.claims j)) (state_at old.cols i)) (state_at old.cols i).device (state_at new.cols i).device
