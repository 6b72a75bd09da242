use Rattle.std.proofs.Common.{◌+◌, ℕ, sym, ap, arith}
use Rattle.cod_parity.specs.State.{State}
use Rattle.cod_parity.proofs.Calling.{cut_done, cut_none}
use Rattle.cod_parity.proofs.column.ParityColumn.cut.Goals as goal
use Rattle.cod_parity.proofs.column.ParityColumn.cut.Goals.{then-size-before+in_ok-cut, else-size-before}

pub returns-clause-cuts : goal.returns-clause-cuts
returns-clause-cuts g c =
    let size = ap (λ (s : State). s.size) c.self.view_is in (
      omega (arith, size, c.requires.most),
      elim c.if-size-before.branch [
        | then-size-before+in_ok-cut w ↦
            rw (← c.self.view_is, w.self-is) (cut_done _ c.args.size _ _ _ w.if-size-before.true (ap (λ (n : ℕ). n + c.args.size) w.block.ensures) w.min-self-inside.ensures
            w.in_ok-cut.ensures.same w.in_ok-cut.ensures.size w.in_ok-cut.ensures.content w.in_ok-cut.ensures.cause.kept)
        | else-size-before w ↦ rw (w.self-is) (sym (cut_none c.args.self.now c.args.size (omega (arith, size, w.if-size-before.false))))
      ],
    )
