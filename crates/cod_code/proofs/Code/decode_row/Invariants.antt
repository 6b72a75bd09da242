use Rattle.std.proofs.Common.{◌≡◌, ℕ, ◌<◌, length, get_or, nat_lt, ◌&&◌, if◌then◌else◌}
use Rattle.cod_code.specs.Columns.{weight, columns_of, has_column}
use Rattle.cod_code.proofs.Code.decode_row.Given as goal

abbrev pub invariant-loop-j : goal.invariant-loop-j
invariant-loop-j l = record {
  size : length l.row ≡ 16;
  filled : (m : ℕ) → m < 16 → get_or l.row m 0 ≡ (if nat_lt m l.j && has_column l.sources m then weight (columns_of l.sources) m l.wanted else 0);
}
