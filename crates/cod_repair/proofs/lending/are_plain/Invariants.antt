use Rattle.std.proofs.Common.{◌≡◌, ◌<◌, ℕ, true}
use Rattle.cod_code.specs.Columns.{has_column}
use Rattle.cod_seg.specs.Seg.{col_at}
use Rattle.cod_repair.specs.Columns.{IsPlain}
use Rattle.cod_repair.specs.Pieces.{kept_byte}
use Rattle.cod_repair.proofs.lending.are_plain.Given as goal

abbrev pub invariant-loop-i : goal.invariant-loop-i
invariant-loop-i g l = (m : ℕ) → m < l.i → has_column l.sources m ≡ true → IsPlain (col_at l.columns m) (kept_byte l.claims m)
