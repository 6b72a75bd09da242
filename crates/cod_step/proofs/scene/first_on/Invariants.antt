use Rattle.std.proofs.Common.{◌≡◌, ◌<◌, ℕ, false}
use Rattle.cod_step.specs.Live.{is_node, node_at}
use Rattle.cod_step.proofs.scene.first_on.Given as goal

abbrev pub invariant-loop-i : goal.invariant-loop-i
invariant-loop-i l = (m : ℕ) → m < l.i → is_node l.node.0 (node_at l.live m) ≡ false
