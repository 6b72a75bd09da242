use Rattle.std.proofs.Common.{◌≡◌, length}
use Rattle.bench_repair.proofs.Making.{AllMade}
use Rattle.bench_repair.proofs.time_pieces.Given as goal

abbrev pub invariant-loop : goal.invariant-loop
invariant-loop g l = record {
  shape : l.bench ≡ l.g;
  count : length l.columns ≡ l.g.n;
  made : AllMade l.g l.g.n l.columns;
}
