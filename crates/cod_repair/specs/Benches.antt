-- What a bench keeps to.
use Rattle.std.specs.Prelude.{◌≡◌, ◌≤◌, ℕ, ◌+◌}
use Rattle.cod_types.specs.Limits.{IsWithin, Shape}
use Rattle.cod_code.specs.declared.Code.{Code}

-- the rows of the geometry's code, and room for a block with its reserved space, for a block, and for windows, at least one of them
pub record IsBench (g : Shape) (code : Code) (scratch block windows : ℕ) : Type 0 where
  pub within : IsWithin g
  pub most : code.n ≡ g.n
  pub least : code.k ≡ g.k
  pub scratch_size : scratch ≡ g.block + g.reserve
  pub block_size : block ≡ g.block
  pub windows_size : g.block ≤ windows
