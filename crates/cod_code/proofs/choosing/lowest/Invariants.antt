use Rattle.std.proofs.Common.{◌≡◌, ℕ, ◌-◌, ◌<◌, ◌^◌}
use Rattle.cod_code.specs.Columns.{has_column}
use Rattle.cod_code.specs.Choosing.{is_lowest, marked_below}
use Rattle.cod_code.proofs.LowestBits.{below}
use Rattle.cod_code.proofs.choosing.lowest.Given as goal

abbrev pub invariant-loop-j : goal.invariant-loop-j
invariant-loop-j l = record {
  bits : (j : ℕ) → has_column l.sources j ≡ below (is_lowest l.count l.marks) l.j j;
  bound : l.sources < 2 ^ l.j;
  left : l.left ≡ l.count - marked_below l.marks l.j;
}
