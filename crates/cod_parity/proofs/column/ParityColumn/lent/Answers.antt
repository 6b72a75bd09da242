use Rattle.std.proofs.Common.{subst}
use Rattle.cod_region.specs.Device.{Reads}
use Rattle.cod_parity.specs.State.{State}
use Rattle.cod_parity.proofs.Holding.{lent_value}
use Rattle.cod_parity.proofs.column.ParityColumn.lent.Goals as goal

pub returns-clause-value : goal.returns-clause-value
returns-clause-value g c = λ none cuts v h.
    let bytes : Reads c.args.self.now.device.content c.args.off c.lent.result.now =
    subst (λ (s : State). Reads s.device.content c.args.off c.lent.result.now) c.self.view_is c.lent.ensures.bytes in
    lent_value cuts c.args.self.now v c.lent.result.now c.args.off c.args.len c.lent.ensures.length c.requires.inside none bytes h
