use Rattle.std.proofs.Common.{◌∙◌, ◌<◌, ◌+◌, sym, ap, subst, arith}
use Rattle.cod_claims.specs.Claimed.{claim_at}
use Rattle.cod_seg.specs.Seg.{Target}
use Rattle.cod_update.specs.Correcting.{IsCorrectedTo}
use Rattle.cod_update.proofs.EachBlock.{changes_still, corrected_on, corrected_past}
use Rattle.cod_update.proofs.Opened.{owned}
use Rattle.cod_update.proofs.correcting.correct_target.Goals as goal
use Rattle.cod_update.proofs.correcting.correct_target.Goals.{then-is_of+in_ok-correct_block, else-is_of}

pub correct_block-requires-clause-changes : goal.correct_block-requires-clause-changes
correct_block-requires-clause-changes g c = λ claim same there.
    let below = c.loop-block-test.true in
    let shape = c.requires.shape in
    let low : c.args.col < c.args.k = omega (arith, below, same) in
    let low' : c.args.col < c.args.bench.now.k = omega (arith, low, shape) in
    changes_still c.loop-block.block c.args.k c.args.col c.args.caller.0 c.args.claims.now claim c.args.target.now c.loop-block.target low (omega (arith, same)) c.loop-block.invariant.corrected
    (c.requires.can.changes claim low' (ap (claim_at c.args.claims.now) same ∙ there))

pub loop-block-preserved : goal.loop-block-preserved
loop-block-preserved g c = elim c.if-is_of.branch [
  | then-is_of+in_ok-correct_block w ↦
      let mine = sym c.is_of.ensures ∙ w.if-is_of.true in
      let own = owned c.args.caller.0 (claim_at c.args.claims.now c.loop-block.block) mine in
      let next = w.in_ok-correct_block.ensures.corrected own.claim own.there in
      record {
        corrected = subst (λ (t : Target). IsCorrectedTo (c.loop-block.block + 1) c.args.k c.args.col c.args.caller.0 c.args.claims.now c.args.target.now t) (sym w.target-is)
            (corrected_on c.loop-block.block c.args.k c.args.col c.args.caller.0 c.args.claims.now own.claim c.args.target.now c.loop-block.target w.correct_block.new.target mine own.there
            c.loop-block.invariant.corrected next);
        bench = w.bench-is ∙ w.in_ok-correct_block.ensures.bench ∙ c.loop-block.invariant.bench;
      }
  | else-is_of w ↦
      let other = sym c.is_of.ensures ∙ w.if-is_of.false in
      record {
        corrected = subst (λ (t : Target). IsCorrectedTo (c.loop-block.block + 1) c.args.k c.args.col c.args.caller.0 c.args.claims.now c.args.target.now t) (sym w.target-is)
            (corrected_past c.loop-block.block c.args.k c.args.col c.args.caller.0 c.args.claims.now c.args.target.now c.loop-block.target other c.loop-block.invariant.corrected);
        bench = w.bench-is ∙ c.loop-block.invariant.bench;
      }
]
