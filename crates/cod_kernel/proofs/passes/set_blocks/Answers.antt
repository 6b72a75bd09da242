use Rattle.std.proofs.Common.{◌≡◌, ◌+◌, ◌-◌, ◌*◌, ◌∙◌, length, sym, arith}
use Rattle.cod_kernel.proofs.Places.{set_upto, set_step, set_whole, set_less}
use Rattle.cod_kernel.proofs.passes.set_blocks.Goals as goal

pub wide-preserved : goal.wide-preserved
wide-preserved g c =
    let at = c.wide.step * 32 in
    let next : at + 32 ≡ (c.wide.step + 1) * 32 = omega arith in
    let xs = g.A.Block.bytes c.args.a in
    let ys = g.B.Block.bytes c.args.b in
    record {
      first_length = c.set_wide.auto.dst ∙ c.wide.invariant.first_length;
      second_length = c.set_wide-in-wide.auto.dst ∙ c.wide.invariant.second_length;
      first = set_upto c.set_wide.new.dst xs (at + 32) ((c.wide.step + 1) * 32) next
          (set_step at 32 c.wide.first c.set_wide.new.dst xs c.wide-to_first.result c.set_wide.ensures c.wide-to_first.ensures (omega arith) (omega arith) c.wide.invariant.first);
      second = set_upto c.set_wide-in-wide.new.dst ys (at + 32) ((c.wide.step + 1) * 32) next
          (set_step at 32 c.wide.second c.set_wide-in-wide.new.dst ys c.wide-to_second.result c.set_wide-in-wide.ensures c.wide-to_second.ensures (omega arith) (omega arith) c.wide.invariant.second);
    }

pub narrow-preserved : goal.narrow-preserved
narrow-preserved g c =
    let at = c.narrow.step * 16 in
    let next : at + 16 ≡ (c.narrow.step + 1) * 16 = omega arith in
    let xs = g.A.Block.bytes c.args.a in
    let ys = g.B.Block.bytes c.args.b in
    record {
      first_length = c.set_narrow.auto.dst ∙ c.narrow.invariant.first_length;
      second_length = c.set_narrow-in-narrow.auto.dst ∙ c.narrow.invariant.second_length;
      first = set_upto c.set_narrow.new.dst xs (at + 16) ((c.narrow.step + 1) * 16) next
          (set_step at 16 c.narrow.first c.set_narrow.new.dst xs c.narrow-to_first.result c.set_narrow.ensures c.narrow-to_first.ensures (omega arith) (omega arith) c.narrow.invariant.first);
      second = set_upto c.set_narrow-in-narrow.new.dst ys (at + 16) ((c.narrow.step + 1) * 16) next
          (set_step at 16 c.narrow.second c.set_narrow-in-narrow.new.dst ys c.narrow-to_second.result c.set_narrow-in-narrow.ensures c.narrow-to_second.ensures
          (omega arith) (omega arith) c.narrow.invariant.second);
    }

pub returns-then-first-ne0-clause-first : goal.returns-then-first-ne0-clause-first
returns-then-first-ne0-clause-first g c =
    let xs = g.A.Block.bytes c.args.a in
    let at = length c.narrow.first - 16 in
    set_whole c.set_narrow-then-first-ne0.new.dst xs (at + 16) (c.set_narrow-then-first-ne0.auto.dst ∙ c.narrow.invariant.first_length ∙ sym c.requires.first) (omega arith)
    (set_step at 16 c.narrow.first c.set_narrow-then-first-ne0.new.dst xs c.narrow-last_first.result c.set_narrow-then-first-ne0.ensures c.narrow-last_first.ensures (omega arith) (omega arith)
    (set_less c.narrow.first xs at (c.narrow.step * 16) (omega arith) c.narrow.invariant.first))

pub returns-then-first-ne0-clause-second : goal.returns-then-first-ne0-clause-second
returns-then-first-ne0-clause-second g c =
    let xs = g.B.Block.bytes c.args.b in
    let at = length c.narrow.first - 16 in
    set_whole c.set_narrow-then-first-ne0-2.new.dst xs (at + 16) (c.set_narrow-then-first-ne0-2.auto.dst ∙ c.narrow.invariant.second_length ∙ sym c.requires.second) (omega arith)
    (set_step at 16 c.narrow.second c.set_narrow-then-first-ne0-2.new.dst xs c.narrow-last_second.result c.set_narrow-then-first-ne0-2.ensures c.narrow-last_second.ensures (omega arith) (omega arith)
    (set_less c.narrow.second xs at (c.narrow.step * 16) (omega arith) c.narrow.invariant.second))

pub returns-else-first-ne0-clause-first : goal.returns-else-first-ne0-clause-first
returns-else-first-ne0-clause-first g c =
    set_whole c.narrow.first (g.A.Block.bytes c.args.a) (c.narrow.step * 16) (c.narrow.invariant.first_length ∙ sym c.requires.first) (omega arith) c.narrow.invariant.first

pub returns-else-first-ne0-clause-second : goal.returns-else-first-ne0-clause-second
returns-else-first-ne0-clause-second g c =
    set_whole c.narrow.second (g.B.Block.bytes c.args.b) (c.narrow.step * 16) (c.narrow.invariant.second_length ∙ sym c.requires.second) (omega arith) c.narrow.invariant.second
