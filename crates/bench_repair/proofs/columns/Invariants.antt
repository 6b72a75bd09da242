use Rattle.std.proofs.Common.{◌≡◌, length}
use Rattle.bench_repair.proofs.Making.{AllMade}
use Rattle.bench_repair.proofs.columns.Given as goal

abbrev pub invariant-loop-col : goal.invariant-loop-col
invariant-loop-col l = record {
  count : length l.columns ≡ l.col;
  made : AllMade l.g l.col l.columns;
}
