-- What a column needs at its new place.
use Rattle.std.specs.Prelude.{◌≡◌, ℕ, ◌+◌, ◌<◌, ◌≤◌, min}
use Rattle.cod_types.specs.Limits.{floor, Shape}
use Rattle.cod_predict.specs.Average.{target_size}
use Rattle.cod_parity.specs.State.{State}
use Rattle.cod_drain.specs.declared.plan.Plan.{Plan}

-- A data column needs a block's bytes. A parity column has its reserve behind them, of a size within its limits.
pub record IsPlan (g : Shape) (p : Plan) : Type 0 where
  pub block : p.col < g.k → (p.size ≡ 0) × (p.average ≡ 10000)
  pub whole : p.bytes ≡ g.block + p.size
  pub least : g.k ≤ p.col → floor g ≤ p.size
  pub most : p.size ≤ g.reserve
  pub average : p.average ≤ 10000

-- The size of a parity column follows from its average by the rule that answers so: from what was appended since the last tick, as
-- far as that fits, of the size so far.
pub record IsRuled (g : Shape) (answer : (used size average : ℕ) → ℕ) (c : State) (p : Plan) : Type 0 where
  pub average : p.average ≡ answer (min c.appended c.size) c.size c.average
  pub size : p.size ≡ target_size g g.reserve p.average
