use Rattle.cod_stripe.proofs.Frail.{none_more, one_more}
use Rattle.cod_stripe.proofs.building.frail_nodes.Goals as goal
use Rattle.cod_stripe.proofs.building.frail_nodes.Goals.{then-may_fail+in_ok-push, else-may_fail}

pub loop-node-preserved : goal.loop-node-preserved
loop-node-preserved g c = elim c.if-may_fail.branch [
  | then-may_fail+in_ok-push w ↦
      rw w.frail-is (one_more (g.H.Shelf.regions c.args.shelf.now).never_fail c.loop-node.node c.may_fail.result c.loop-node.frail.items w.push.new.self.items
      c.loop-node.invariant c.may_fail.ensures w.if-may_fail.true w.in_ok-push.ensures.items)
  | else-may_fail w ↦
      rw w.frail-is (none_more (g.H.Shelf.regions c.args.shelf.now).never_fail c.loop-node.node c.may_fail.result c.loop-node.frail.items
      c.loop-node.invariant c.may_fail.ensures w.if-may_fail.false)
]
