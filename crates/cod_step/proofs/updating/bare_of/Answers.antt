use Rattle.std.proofs.Common.{◌∙◌, ◌-◌, sym, arith}
use Rattle.cod_claims.proofs.Finding.{found_first, found_none}
use Rattle.cod_step.specs.Next.{is_bare}
use Rattle.cod_step.proofs.updating.bare_of.Goals as goal

pub returns-then-is_bare : goal.returns-then-is_bare
returns-then-is_bare c =
    let k = c.k-k.ensures.value in
    let n = c.n-n.ensures in
    rw (← k, ← n) (sym (found_first (is_bare c.args.scene.now.live c.args.scene.now.claims.now c.args.block) c.k-k.result (c.n-n.result - c.k-k.result) c.loop-i.i
    (omega arith) (omega arith) (λ m low lt. c.loop-i.invariant m low lt) (sym c.is_bare.ensures ∙ c.if-is_bare.true)))

pub returns : goal.returns
returns c =
    let k = c.k-k.ensures.value in
    let n = c.n-n.ensures in
    rw (← k, ← n) (sym (found_none (is_bare c.args.scene.now.live c.args.scene.now.claims.now c.args.block) c.k-k.result (c.n-n.result - c.k-k.result)
    (λ m low lt. c.loop-i.invariant m low (omega arith))))
