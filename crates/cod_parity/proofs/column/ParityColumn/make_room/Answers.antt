use Rattle.std.proofs.Common.{sym, subst}
use Rattle.cod_parity.specs.State.{State}
use Rattle.cod_parity.specs.Calls.{Merges}
use Rattle.cod_parity.proofs.Calling.{roomy}
use Rattle.cod_parity.proofs.column.ParityColumn.make_room.Goals as goal

pub returns-clause-merges : goal.returns-clause-merges
returns-clause-merges g c =
    roomy c.args.cuts.now c.args.self.now _ c.args.len c.min-self-inside.result
    (subst (λ (s : State). Merges c.args.cuts.now c.args.self.now s) (sym c.self.view_is) c.in_ok-merge_now.ensures.merges) c.min-self-inside.ensures c.requires.room
