use Rattle.std.proofs.Common.{◌∙◌, ℕ, sym, arith}
use Rattle.cod_claims.proofs.Finding.{found_first, found_none}
use Rattle.cod_step.specs.Live.{is_node, node_at}
use Rattle.cod_step.proofs.scene.first_on.Goals as goal

pub returns-then-is_on : goal.returns-then-is_on
returns-then-is_on c =
    sym (found_first (λ (i : ℕ). is_node c.args.node.0 (node_at c.args.live.now i)) 0 c.args.n c.loop-i.i (omega arith) (omega arith)
    (λ m low lt. c.loop-i.invariant m lt) (sym c.is_on.ensures ∙ c.if-is_on.true))

pub returns : goal.returns
returns c = sym (found_none (λ (i : ℕ). is_node c.args.node.0 (node_at c.args.live.now i)) 0 c.args.n (λ m low lt. c.loop-i.invariant m (omega arith)))
