use Rattle.std.proofs.Common.{◌≡◌, ◌∙◌, ℕ, not, true, length, sym, ap, arith}
use Rattle.std.proofs.lemmas.List.{get_or_read}
use Rattle.cod_claims.proofs.Finding.{found_first, found_none}
use Rattle.cod_seg.specs.Seg.{Col, col_at, no_col}
use Rattle.cod_repair.proofs.sources.lowest_down.Goals as goal

pub returns-then-not-is_up : goal.returns-then-not-is_up
returns-then-not-is_up g c =
    let cols = c.args.columns.now in
    let i = c.loop-i.i in
    let e : c.index-columns-i.result ≡ col_at cols i = get_or_read cols i c.index-columns-i.result c.loop-i-test.true c.index-columns-i.is no_col in
    let down : not (col_at cols i).is_up ≡ true = sym (ap (λ (x : Col). not x.is_up) e) ∙ ap not (sym c.is_up.ensures ∙ c.if-not-is_up.true) in
    sym (found_first (λ (m : ℕ). not (col_at cols m).is_up) 0 (length cols) i (omega arith) (omega (arith, c.loop-i-test.true)) (λ m low lt. ap not (c.loop-i.invariant m lt)) down)

pub returns : goal.returns
returns g c =
    let cols = c.args.columns.now in
    let t = c.loop-i-test.false in
    sym (found_none (λ (m : ℕ). not (col_at cols m).is_up) 0 (length cols) (λ m low lt. ap not (c.loop-i.invariant m (omega (arith, lt, t)))))
