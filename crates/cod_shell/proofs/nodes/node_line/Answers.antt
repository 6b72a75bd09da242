use Rattle.cod_print.proofs.Fronts.{puts_same}
use Rattle.cod_shell.proofs.Bare.{node_is}
use Rattle.cod_shell.proofs.nodes.node_line.Goals as goal

pub returns-clause-text : goal.returns-clause-text
returns-clause-text g c kills segs killed sums =
    puts_same c.node.result _ _ _ _ (node_is c.args.names.now kills segs c.args.node.0 c.args.is_killed c.capacity.result c.args.free killed sums c.capacity.ensures) c.node.ensures.text
