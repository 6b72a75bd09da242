use Rattle.std.proofs.Common.{◌≡◌, ◌∙◌, ℕ, None, Some, true, false, sym, ap, arith, length-set}
use Rattle.std.proofs.lemmas.List.{get_or_read}
use Rattle.cod_seg.specs.Seg.{Col, col_at, no_col}
use Rattle.cod_repair.specs.Columns.{live_node}
use Rattle.cod_repair.proofs.Choosing.{filled_more, filled_skip, node_down, node_up}
use Rattle.cod_repair.proofs.sources.live_nodes.Goals as goal
use Rattle.cod_repair.proofs.sources.live_nodes.Goals.{then-is_up, else-is_up}

pub loop-i-preserved : goal.loop-i-preserved
loop-i-preserved g c =
    let cols = c.args.columns.now in
    let i = c.loop-i.i in
    let inv = c.loop-i.invariant in
    let e : c.index-columns-i.result ≡ col_at cols i = get_or_read cols i c.index-columns-i.result c.loop-i-test.true c.index-columns-i.is no_col in
    let f = λ (m : ℕ). live_node (col_at cols m) in
    elim c.if-is_up.branch [
      | then-is_up w ↦
          let up : (col_at cols i).is_up ≡ true = sym (ap (λ (x : Col). x.is_up) e) ∙ sym c.is_up.ensures ∙ w.if-is_up.true in
          let same : w.index-columns-i-then-is_up.result ≡ col_at cols i = get_or_read cols i w.index-columns-i-then-is_up.result c.loop-i-test.true w.index-columns-i-then-is_up.is no_col in
          let is = ap Some (w.node.ensures ∙ ap (λ (x : Col). x.room.node) same) ∙ sym (node_up (col_at cols i) up) in
          rw w.nodes-is (record {
            wide = length-set c.loop-i.nodes i (Some w.node.result) ∙ inv.wide;
            each = filled_more f None c.loop-i.nodes i (Some w.node.result) (let n = c.loop-i-test.true in let m = c.requires in omega (arith, inv.wide, n, m)) is inv.each;
          })
      | else-is_up w ↦
          let down : (col_at cols i).is_up ≡ false = sym (ap (λ (x : Col). x.is_up) e) ∙ sym c.is_up.ensures ∙ w.if-is_up.false in
          rw w.nodes-is (record { wide = inv.wide; each = filled_skip f None c.loop-i.nodes i (node_down (col_at cols i) down) inv.each })
    ]
