use Rattle.std.proofs.Common.{ℕ, ◌-◌, sym, ap, ◌∙◌}
use Rattle.cod_print.proofs.Fronts.{puts_same}
use Rattle.cod_tool.proofs.Plans.{node_parts}
use Rattle.cod_tool.proofs.planning.node_line.Goals as goal

pub returns-clause-text : goal.returns-clause-text
returns-clause-text g c =
    let size = c.all_take-size.result in
    puts_same c.counts.result _ _ _ _
    (sym (node_parts c.args.names.now c.args.node size c.saturating_sub.result c.all_take-size.ensures (c.saturating_sub.ensures ∙ ap (λ (n : ℕ). n - size) c.capacity.ensures)))
    c.counts.ensures.text
