-- What every scenario has, as far as it is used for a check and a plan.
use Rattle.std.specs.Prelude.{ℕ, ◌<◌, ◌≤◌, ◌^◌, length}
use Rattle.std.specs.List.{range_with_len, sum_by}
use Rattle.cod_types.specs.Limits.{IsWithin}
use Rattle.cod_script.specs.Script.{Script}
use Rattle.cod_script.specs.Owed.{owed}

-- how many segment calls all clients are to make
abbrev pub calls_of : Script → ℕ
calls_of x = sum_by (λ who. length (owed x who)) (range_with_len 0 (length x.clients))

-- what every scenario has, as far as it is used here
pub record IsFit (x : Script) : Type 0 where
  pub within : IsWithin x.shape
  pub some_nodes : 1 ≤ x.nodes
  pub columns : x.shape.n ≤ x.nodes
  pub few_calls : calls_of x < 2 ^ 32
