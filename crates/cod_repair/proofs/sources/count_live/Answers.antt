use Rattle.std.proofs.Common.{◌≡◌, ◌∙◌, sym, ap, arith}
use Rattle.std.proofs.lemmas.List.{get_or_read}
use Rattle.cod_seg.specs.Seg.{Col, col_at, no_col}
use Rattle.cod_repair.proofs.Choosing.{up_more, up_skip}
use Rattle.cod_repair.proofs.sources.count_live.Goals as goal
use Rattle.cod_repair.proofs.sources.count_live.Goals.{then-is_up, else-is_up}

pub loop-i-preserved : goal.loop-i-preserved
loop-i-preserved g c =
    let cols = c.args.columns.now in
    let i = c.loop-i.i in
    let e : c.index-columns-i.result ≡ col_at cols i = get_or_read cols i c.index-columns-i.result c.loop-i-test.true c.index-columns-i.is no_col in
    elim c.if-is_up.branch [
      | then-is_up w ↦
          let more = up_more cols i (sym (ap (λ (x : Col). x.is_up) e) ∙ sym c.is_up.ensures ∙ w.if-is_up.true) in
          rw w.count-is (record { few = omega (arith, c.loop-i.invariant.few); counted = omega (arith, more, c.loop-i.invariant.counted) })
      | else-is_up w ↦
          let same = up_skip cols i (sym (ap (λ (x : Col). x.is_up) e) ∙ sym c.is_up.ensures ∙ w.if-is_up.false) in
          rw w.count-is (record { few = omega (arith, c.loop-i.invariant.few); counted = omega (arith, same, c.loop-i.invariant.counted) })
    ]
