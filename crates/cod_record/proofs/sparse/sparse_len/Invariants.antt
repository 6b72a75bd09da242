use Rattle.std.proofs.Common.{◌-◌, ℕ, length}
use Rattle.cod_record.proofs.Lengths.{IsLeft}
use Rattle.cod_record.proofs.sparse.sparse_len.Given as goal

abbrev pub invariant-runs : goal.invariant-runs
invariant-runs l = (off : ℕ) → IsLeft off l.at l.len l.bytes

abbrev pub decreases-runs : goal.decreases-runs
decreases-runs l = length l.bytes - l.at
