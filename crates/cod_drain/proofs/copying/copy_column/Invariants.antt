use Rattle.std.proofs.Common.{◌≡◌, ◌-◌}
use Rattle.cod_drain.proofs.Pieces.{IsCopying}
use Rattle.cod_drain.proofs.copying.copy_column.Given as goal

abbrev pub invariant-pieces : goal.invariant-pieces
invariant-pieces g l = IsCopying l.bench l.col l.initial.segment l.segment l.initial.target l.target × (l.bench ≡ l.initial.bench)

abbrev pub decreases-pieces : goal.decreases-pieces
decreases-pieces g l = l.block - l.target.filled
