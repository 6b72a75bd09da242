use Rattle.std.proofs.Common.{◌∙◌, sym, arith}
use Rattle.cod_code.proofs.LowestBits.{bits_more, bits_skip}
use Rattle.cod_step.specs.Next.{touches}
use Rattle.cod_step.proofs.updating.wanted.Goals as goal
use Rattle.cod_step.proofs.updating.wanted.Goals.{then-touches, else-touches}

pub loop-j-preserved : goal.loop-j-preserved
loop-j-preserved c =
    let test = touches c.args.g.now c.args.off c.args.len in
    elim c.if-touches.branch [
      | then-touches w ↦ rw w.blocks-is (bits_more test c.loop-j.blocks c.loop-j.j (omega arith) (sym c.touches.ensures ∙ w.if-touches.true) c.loop-j.invariant)
      | else-touches w ↦ rw w.blocks-is (bits_skip test c.loop-j.blocks c.loop-j.j (sym c.touches.ensures ∙ w.if-touches.false) c.loop-j.invariant)
    ]
