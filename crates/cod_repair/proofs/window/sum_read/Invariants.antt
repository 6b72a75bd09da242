use Rattle.std.proofs.Common.{◌≡◌, ℕ, ◌+◌, ◌*◌, ◌<◌, ◌≤◌, length, true}
use Rattle.cod_code.specs.Columns.{has_column}
use Rattle.cod_seg.specs.Seg.{col_at}
use Rattle.cod_repair.specs.Columns.{HasValue, were_read}
use Rattle.cod_repair.specs.Pieces.{kept_byte, sum_of, with_windows}
use Rattle.cod_repair.proofs.window.sum_read.Given as goal

abbrev pub invariant-loop-i : goal.invariant-loop-i
invariant-loop-i g l = record {
  wide : length l.coefs ≡ 4;
  few : l.held ≤ 4;
  fits : l.held * length l.fn.into ≤ length l.fn.windows;
  reads : l.columns ≡ were_read (has_column l.sources) l.fn.columns l.i;
  sum : (v : ℕ → ℕ → ℕ)
      → ((i : ℕ) → i < length l.fn.columns → has_column l.sources i ≡ true → HasValue (col_at l.fn.columns i) l.cuts (kept_byte l.claims i) (v i))
      → (x : ℕ) → x < length l.fn.into → with_windows l.fresh l.into l.coefs l.windows (length l.fn.into) l.held x ≡ sum_of l.row (λ i. v i (l.off + x)) l.i;
}
