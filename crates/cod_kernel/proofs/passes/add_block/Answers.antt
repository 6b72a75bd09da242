use Rattle.std.proofs.Common.{◌≡◌, ◌+◌, ◌-◌, ◌*◌, ◌∙◌, ap, sym, length, arith}
use Rattle.std.specs.Simd.Lanes.{chunk}
use Rattle.cod_kernel.proofs.Places.{added_upto, added_step, added_last, added_whole, sum_whole}
use Rattle.cod_kernel.proofs.passes.add_block.Goals as goal

pub wide-preserved : goal.wide-preserved
wide-preserved g c =
    let bs = g.B.Block.bytes c.args.block in
    let at = c.wide.step * 64 in
    let next : at + 32 + 32 ≡ (c.wide.step + 1) * 64 = omega arith in
    record {
      same_length = c.add_wide-in-wide.auto.dst ∙ c.add_wide.auto.dst ∙ c.wide.invariant.same_length;
      so_far = added_upto c.args.dst.now c.add_wide-in-wide.new.dst bs (at + 32 + 32) ((c.wide.step + 1) * 64) next
          (added_step (at + 32) 32 c.args.dst.now c.add_wide.new.dst c.add_wide-in-wide.new.dst bs c.wide-second.result c.add_wide-in-wide.ensures c.wide-second.ensures (omega arith) (omega arith)
          (added_step at 32 c.args.dst.now c.wide.dst c.add_wide.new.dst bs c.wide-first.result c.add_wide.ensures c.wide-first.ensures (omega arith) (omega arith) c.wide.invariant.so_far));
    }

pub narrow-preserved : goal.narrow-preserved
narrow-preserved g c =
    let bs = g.B.Block.bytes c.args.block in
    let at = c.narrow.step * 16 in
    let next : at + 16 ≡ (c.narrow.step + 1) * 16 = omega arith in
    record {
      same_length = c.add_narrow.auto.dst ∙ c.narrow.invariant.same_length;
      so_far = added_upto c.args.dst.now c.add_narrow.new.dst bs (at + 16) ((c.narrow.step + 1) * 16) next
          (added_step at 16 c.args.dst.now c.narrow.dst c.add_narrow.new.dst bs c.narrow-in-narrow.result c.add_narrow.ensures c.narrow-in-narrow.ensures
          (omega arith) (omega arith) c.narrow.invariant.so_far);
    }

pub returns-then-dst-ne0 : goal.returns-then-dst-ne0
returns-then-dst-ne0 g c =
    let start = c.args.dst.now in
    let bs = g.B.Block.bytes c.args.block in
    let at = length start - 16 in
    let kept = c.set_narrow.auto.dst ∙ c.narrow.invariant.same_length in
    sum_whole start c.set_narrow.new.dst bs c.requires kept (λ m lt.
    added_last (length c.narrow.dst - 16) (c.narrow.step * 16) start c.narrow.dst c.set_narrow.new.dst bs c.narrow_at-before.result c.narrow-then-dst-ne0.result
    c.set_narrow.ensures (c.narrow_at-before.ensures ∙ ap (λ n. chunk (n - 16) 16 start) (sym c.narrow.invariant.same_length)) c.narrow-then-dst-ne0.ensures
    (omega arith) (omega arith) (omega arith) (omega arith) c.narrow.invariant.so_far m (omega arith))

pub returns-else-dst-ne0 : goal.returns-else-dst-ne0
returns-else-dst-ne0 g c =
    added_whole c.args.dst.now c.narrow.dst (g.B.Block.bytes c.args.block) (c.narrow.step * 16) c.requires c.narrow.invariant.same_length (omega arith) c.narrow.invariant.so_far
