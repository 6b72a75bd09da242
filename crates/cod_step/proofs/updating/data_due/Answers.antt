use Rattle.std.proofs.Common.{◌≡◌, ◌∙◌, ◌<◌, sym, arith}
use Rattle.cod_claims.proofs.Finding.{found_first, found_none}
use Rattle.cod_step.specs.Next.{is_data_due}
use Rattle.cod_step.proofs.updating.data_due.Goals as goal

pub returns-then-is_data_due : goal.returns-then-is_data_due
returns-then-is_data_due c =
    let k : c.k-k.result ≡ c.args.scene.now.shape.k = c.k-k.ensures.value in
    let low : c.loop-j.j < c.args.scene.now.shape.k = omega (arith, k) in
    sym (found_first (is_data_due c.args.scene.now.live c.args.scene.now.claims.now c.args.caller.0) 0 c.args.scene.now.shape.k c.loop-j.j (omega arith) (omega (arith, low))
    (λ m low lt. c.loop-j.invariant m lt) (sym c.is_data_due.ensures ∙ c.if-is_data_due.true))

pub returns : goal.returns
returns c =
    let k : c.k-k.result ≡ c.args.scene.now.shape.k = c.k-k.ensures.value in
    sym (found_none (is_data_due c.args.scene.now.live c.args.scene.now.claims.now c.args.caller.0) 0 c.args.scene.now.shape.k (λ m low lt. c.loop-j.invariant m (omega (arith, k))))
