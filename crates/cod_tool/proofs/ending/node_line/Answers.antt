use Rattle.std.proofs.Common.{sym, ap, ◌∙◌, arith}
use Rattle.cod_print.proofs.Fronts.{puts_same}
use Rattle.cod_script.specs.Script.{Script}
use Rattle.cod_shell.proofs.Bare.{node_same}
use Rattle.cod_tool.proofs.Bare.{prints_as}
use Rattle.cod_tool.proofs.ending.node_line.Goals as goal

pub node_line-requires : goal.node_line-requires
node_line-requires g c = let capacity = ap (λ (x : Script). x.capacity) c.scenario.ensures.same in omega (arith, c.free.ensures.sums, capacity)

pub returns-clause-text : goal.returns-clause-text
returns-clause-text g c =
    let s = c.args.replay.now in
    puts_same c.node_line.result _ _ _ _ (node_same s.script c.scenario.result.now (prints_as s.script c.scenario.result.now c.scenario.ensures) s.kills s.segs c.args.node)
    (c.node_line.ensures.text s.kills s.segs c.killed-killed.ensures (c.free.ensures.sums ∙ sym (ap (λ (x : Script). x.capacity) c.scenario.ensures.same)))
