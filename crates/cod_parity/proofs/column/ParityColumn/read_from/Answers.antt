use Rattle.std.proofs.Common.{◌≡◌, ◌+◌, ◌-◌, ◌∙◌, ℕ, length, ap, refl, arith}
use Rattle.std.proofs.lemmas.List.{length-take, length-drop}
use Rattle.cod_parity.specs.State.{State}
use Rattle.cod_parity.proofs.Calling.{ok_at, under_ok}
use Rattle.cod_parity.proofs.Meaning.{read_done, read_plain}
use Rattle.cod_parity.proofs.Holding.{read_value}
use Rattle.cod_parity.proofs.column.ParityColumn.read_from.Goals as goal

pub returns-then-self-eq0-clause-value : goal.returns-then-self-eq0-clause-value
returns-then-self-eq0-clause-value g c = rw (← c.self.view_is) (λ base records means. under_ok c.read_at.result (λ y ok x small.
    let block = ap (λ (s : State). s.shape.block) c.self.view_is in
    read_plain c.args.cuts.now _ base records c.read_at.new.into c.args.off means c.if-self-eq0.true (omega (arith, c.requires.inside, block, c.read_at.auto.into)) (ok_at ok c.read_at.ensures.bytes)
    x (omega (arith, small, c.read_at.auto.into))))

pub returns-then-self-eq0-clause-value_held : goal.returns-then-self-eq0-clause-value_held
returns-then-self-eq0-clause-value_held g c = λ v h.
    read_value c.read_at.result c.args.cuts.now c.args.self.now v c.read_at.new.into c.args.off (length c.args.into.now) c.requires.inside (returns-then-self-eq0-clause-value g c) h

pub returns-clause-value : goal.returns-clause-value
returns-clause-value g c =
    let block = ap (λ (s : State). s.shape.block) c.self.view_is in
    let reserve = ap (λ (s : State). s.shape.reserve) c.self.view_is in
    let end : ℕ = (c.block.result - c.args.off) + c.self.inside.used in
    let read : length c.read_at-2.new.into ≡ end =
    omega (
      arith,
      c.read_at-2.auto.into,
      length-take {A = ℕ},
      length-drop {A = ℕ},
      c.requires.scratch,
      c.requires.inside,
      c.block.ensures,
      block,
      reserve,
      c.self.invariant.used,
      c.self.invariant.most,
    ) in
    rw (← c.self.view_is) (λ base records means.
    read_done c.args.cuts.now _ base records c.read_at-2.new.into _ c.copy_from_slice.new.self c.add_log.new.window c.args.off (c.block.result - c.args.off) c.self.inside.used end
    (length c.args.into.now)
    means (omega (arith, c.self.invariant.within.data_among_columns, c.self.invariant.within.most_columns)) refl (omega (arith, c.requires.inside, c.block.ensures, block)) refl (omega (
      arith,
      c.requires.inside,
      block,
    ))
    read c.in_ok-read_at.ensures.bytes c.copy_from_slice.ensures.after c.copy_from_slice.ensures.len c.add_log.ensures)

pub returns-clause-value_held : goal.returns-clause-value_held
returns-clause-value_held g c = λ v h x small.
    returns-clause-value g c h.holds.base h.holds.records h.holds.means x small ∙ h.holds.value_is (c.args.off + x) (omega (arith, c.requires.inside, small))
