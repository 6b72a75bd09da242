use Rattle.std.proofs.Common.{ℕ, ◌<◌, get_or}
use Rattle.cod_parity.proofs.log.any_due.Given as goal

abbrev pub invariant-loop-block : goal.invariant-loop-block
invariant-loop-block l = (k : ℕ) → k < l.block → get_or l.cuts k 0 < get_or l.lowest k 0
