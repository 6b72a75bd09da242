use Rattle.std.proofs.Common.{◌≡◌, ◌+◌, ◌-◌, ◌*◌, ◌∙◌, ap, sym, length, arith}
use Rattle.std.specs.Simd.Lanes.{chunk}
use Rattle.cod_kernel.proofs.Places.{added_upto, added_step, added_last, added_whole, sum_whole}
use Rattle.cod_kernel.proofs.passes.add_blocks.Goals as goal

pub wide-preserved : goal.wide-preserved
wide-preserved g c =
    let at = c.wide.step * 32 in
    let next : at + 32 ≡ (c.wide.step + 1) * 32 = omega arith in
    let xs = g.A.Block.bytes c.args.a in
    let ys = g.B.Block.bytes c.args.b in
    record {
      first_length = c.add_wide.auto.dst ∙ c.wide.invariant.first_length;
      second_length = c.add_wide-in-wide.auto.dst ∙ c.wide.invariant.second_length;
      first = added_upto c.args.first.now c.add_wide.new.dst xs (at + 32) ((c.wide.step + 1) * 32) next
          (added_step at 32 c.args.first.now c.wide.first c.add_wide.new.dst xs c.wide-to_first.result c.add_wide.ensures c.wide-to_first.ensures (omega arith) (omega arith) c.wide.invariant.first);
      second = added_upto c.args.second.now c.add_wide-in-wide.new.dst ys (at + 32) ((c.wide.step + 1) * 32) next
          (added_step at 32 c.args.second.now c.wide.second c.add_wide-in-wide.new.dst ys c.wide-to_second.result c.add_wide-in-wide.ensures c.wide-to_second.ensures
          (omega arith) (omega arith) c.wide.invariant.second);
    }

pub narrow-preserved : goal.narrow-preserved
narrow-preserved g c =
    let at = c.narrow.step * 16 in
    let next : at + 16 ≡ (c.narrow.step + 1) * 16 = omega arith in
    let xs = g.A.Block.bytes c.args.a in
    let ys = g.B.Block.bytes c.args.b in
    record {
      first_length = c.add_narrow.auto.dst ∙ c.narrow.invariant.first_length;
      second_length = c.add_narrow-in-narrow.auto.dst ∙ c.narrow.invariant.second_length;
      first = added_upto c.args.first.now c.add_narrow.new.dst xs (at + 16) ((c.narrow.step + 1) * 16) next
          (added_step at 16 c.args.first.now c.narrow.first c.add_narrow.new.dst xs c.narrow-to_first.result c.add_narrow.ensures c.narrow-to_first.ensures
          (omega arith) (omega arith) c.narrow.invariant.first);
      second = added_upto c.args.second.now c.add_narrow-in-narrow.new.dst ys (at + 16) ((c.narrow.step + 1) * 16) next
          (added_step at 16 c.args.second.now c.narrow.second c.add_narrow-in-narrow.new.dst ys c.narrow-to_second.result c.add_narrow-in-narrow.ensures c.narrow-to_second.ensures
          (omega arith) (omega arith) c.narrow.invariant.second);
    }

pub returns-then-first-ne0-clause-first : goal.returns-then-first-ne0-clause-first
returns-then-first-ne0-clause-first g c =
    let start = c.args.first.now in
    let xs = g.A.Block.bytes c.args.a in
    let kept = c.set_narrow.auto.dst ∙ c.narrow.invariant.first_length in
    let same : length c.args.first.now ≡ length c.narrow.first = sym c.narrow.invariant.first_length in
    sum_whole start c.set_narrow.new.dst xs c.requires.first kept (λ m lt.
    added_last (length c.narrow.first - 16) (c.narrow.step * 16) start c.narrow.first c.set_narrow.new.dst xs c.narrow_at-before_first.result c.narrow-last_first.result
    c.set_narrow.ensures (c.narrow_at-before_first.ensures ∙ ap (λ n. chunk (n - 16) 16 start) same) c.narrow-last_first.ensures
    (omega arith) (omega arith) (omega arith) (omega arith) c.narrow.invariant.first m (omega arith))

pub returns-then-first-ne0-clause-second : goal.returns-then-first-ne0-clause-second
returns-then-first-ne0-clause-second g c =
    let start = c.args.second.now in
    let xs = g.B.Block.bytes c.args.b in
    let kept = c.set_narrow-then-first-ne0.auto.dst ∙ c.narrow.invariant.second_length in
    let same : length c.args.first.now ≡ length c.narrow.first = sym c.narrow.invariant.first_length in
    sum_whole start c.set_narrow-then-first-ne0.new.dst xs c.requires.second kept (λ m lt.
    added_last (length c.narrow.first - 16) (c.narrow.step * 16) start c.narrow.second c.set_narrow-then-first-ne0.new.dst xs c.narrow_at-before_second.result c.narrow-last_second.result
    c.set_narrow-then-first-ne0.ensures (c.narrow_at-before_second.ensures ∙ ap (λ n. chunk (n - 16) 16 start) same) c.narrow-last_second.ensures
    (omega arith) (omega arith) (omega arith) (omega arith) c.narrow.invariant.second m (omega arith))

pub returns-else-first-ne0-clause-first : goal.returns-else-first-ne0-clause-first
returns-else-first-ne0-clause-first g c =
    added_whole c.args.first.now c.narrow.first (g.A.Block.bytes c.args.a) (c.narrow.step * 16) c.requires.first c.narrow.invariant.first_length (omega arith) c.narrow.invariant.first

pub returns-else-first-ne0-clause-second : goal.returns-else-first-ne0-clause-second
returns-else-first-ne0-clause-second g c =
    added_whole c.args.second.now c.narrow.second (g.B.Block.bytes c.args.b) (c.narrow.step * 16) c.requires.second c.narrow.invariant.second_length (omega arith) c.narrow.invariant.second
