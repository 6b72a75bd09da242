use Rattle.std.proofs.Common.{◌≡◌, ℕ, ◌+◌, ◌<◌, ◌≤◌, List, length, true}
use Rattle.cod_code.specs.Columns.{has_column}
use Rattle.cod_seg.specs.Seg.{col_at}
use Rattle.cod_repair.specs.Columns.{HasValue, IsPlain}
use Rattle.cod_repair.specs.Pieces.{sum_of, with_lent}
use Rattle.cod_repair.proofs.Lent.{AreLong, nows}
use Rattle.cod_repair.proofs.lending.sum_lent.Given as goal

abbrev pub invariant-loop-i : goal.invariant-loop-i
invariant-loop-i g l = record {
  wide : length l.coefs ≡ 4;
  places : length l.lent ≡ 4;
  few : l.held ≤ 4;
  long : AreLong (nows l.lent) l.held (length l.fn.into);
  sum : (cuts : List ℕ) (kept v : ℕ → ℕ → ℕ)
      → ((i : ℕ) → i < length l.columns → has_column l.sources i ≡ true → HasValue (col_at l.columns i) cuts (kept i) (v i))
      → ((i : ℕ) → i < length l.columns → has_column l.sources i ≡ true → IsPlain (col_at l.columns i) (kept i))
      → (x : ℕ) → x < length l.fn.into → with_lent l.fresh l.into l.coefs (nows l.lent) l.held x ≡ sum_of l.row (λ i. v i (l.off + x)) l.i;
}
