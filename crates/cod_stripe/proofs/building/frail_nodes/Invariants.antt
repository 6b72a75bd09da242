use Rattle.std.proofs.Common.{◌≡◌}
use Rattle.cod_stripe.specs.Building.{frail_below}
use Rattle.cod_stripe.proofs.building.frail_nodes.Given as goal

abbrev pub invariant-loop-node : goal.invariant-loop-node
invariant-loop-node g l = l.frail.items ≡ frail_below (g.H.Shelf.regions l.shelf).never_fail l.node
