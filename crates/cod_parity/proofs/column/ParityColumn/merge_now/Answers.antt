use Rattle.std.proofs.Common.{◌≡◌, ◌+◌, ◌≤◌, ℕ, length, refl, ap, arith}
use Rattle.std.proofs.lemmas.List.{length-take, length-drop}
use Rattle.cod_region.specs.Device.{Device}
use Rattle.cod_parity.specs.State.{State}
use Rattle.cod_parity.proofs.Calling.{match_err, merged_same, write_failed}
use Rattle.cod_parity.proofs.Lowest.{none_due}
use Rattle.cod_parity.proofs.Meaning.{merge_means}
use Rattle.cod_parity.proofs.column.ParityColumn.merge_now.Goals as goal

pub returns-in_err-write_at-clause-merges : goal.returns-in_err-write_at-clause-merges
returns-in_err-write_at-clause-merges g c =
    let few : c.block-block.result + c.fold_buffer-kept.result.0 ≤ c.self.inside.shape.block + c.self.inside.used =
    omega (arith, c.fold_buffer-kept.ensures.most, length-take {A = ℕ}, c.block-block.ensures) in
    rw (← c.self.view_is) (match_err c.from_residual-in_err-write_at.result _ _ c.from_residual-in_err-write_at.ensures.0 (λ e.
    write_failed _ (g.R.Region.device c.read_at.new.self) (g.R.Region.device c.write_at.new.self) _ c.read_at.ensures.same c.in_ok-read_at.ensures.cause.kept
    c.write_at.ensures.same c.in_err-write_at.ensures.content (omega (arith, length-take {A = ℕ}, few))))

pub returns-clause-merges : goal.returns-clause-merges
returns-clause-merges g c =
    let block : c.block-block.result ≡ c.self.inside.shape.block = c.block-block.ensures in
    let shape = ap (λ (s : State). s.shape.block) c.self.view_is in
    let reserve = ap (λ (s : State). s.shape.reserve) c.self.view_is in
    let was : State = record {
      shape = c.self.inside.shape;
      size = c.self.inside.size;
      used = c.self.inside.used;
      appended = c.self.inside.appended;
      average = c.self.inside.average;
      lowest = c.self.inside.lowest;
      device = g.R.Region.device c.self.inside.region;
    } in
    let few : c.block-block.result + c.fold_buffer-kept.result.0 ≤ c.self.inside.shape.block + c.self.inside.used =
    omega (arith, c.fold_buffer-kept.ensures.most, length-take {A = ℕ}, block) in
    let read : length c.read_at.new.into ≡ c.block-block.result + c.self.inside.used =
    omega (arith, c.read_at.auto.into, length-take {A = ℕ}, length-drop {A = ℕ}, c.requires.scratch, block, shape, reserve, c.self.invariant.used, c.self.invariant.most) in
    let most : c.self.inside.shape.block + c.fold_buffer-kept.result.0 ≤ length c.fold_buffer-kept.new.buffer =
    omega (arith, c.fold_buffer-kept.ensures.most, c.fold_buffer-kept.auto.buffer, block) in
    rw (← c.self.view_is) (record {
      means = λ base records means.
          merge_means c.args.cuts.now _ _ base records (g.R.Region.device c.read_at.new.self).content c.block-block.result
          (c.block-block.result + c.self.inside.used) c.read_at.new.into _ c.fold_buffer-kept.new.buffer _ c.fold_buffer-kept.result.1 c.fold_buffer-kept.result.0
          means (omega (arith, c.self.invariant.within.data_among_columns, c.self.invariant.within.most_columns)) block (ap (λ (d : Device). d.content) c.read_at.ensures.same) refl
          c.in_ok-read_at.ensures.bytes read (omega (arith, most, block))
          c.fold_buffer-kept.ensures.lowest c.fold_buffer-kept.ensures.meaning c.in_ok-write_at.ensures.content refl refl refl;
      less = omega (arith, few, block);
      none_due = λ small due. none_due c.args.cuts.now small (c.fold_buffer-kept.ensures.due due);
      same = merged_same was (g.R.Region.device c.read_at.new.self) (g.R.Region.device c.write_at.new.self) c.fold_buffer-kept.result.0 c.fold_buffer-kept.result.1
          c.read_at.ensures.same c.in_ok-read_at.ensures.cause.kept c.write_at.ensures.same c.in_ok-write_at.ensures.cause.kept;
    })
