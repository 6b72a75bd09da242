use Rattle.std.proofs.Common.{ap, subst, arith}
use Rattle.cod_region.specs.Device.{Reads}
use Rattle.cod_parity.specs.State.{State}
use Rattle.cod_parity.proofs.Calling.{ok_at, under_ok}
use Rattle.cod_parity.proofs.Meaning.{read_front}
use Rattle.cod_parity.proofs.column.ParityColumn.copy_out.Goals as goal

pub returns-clause-whole : goal.returns-clause-whole
returns-clause-whole g c = λ base records means. under_ok c.read_at.result (λ y ok.
    let content = ap (λ (s : State). s.device.content) c.self.view_is in
    read_front c.args.self.now base records c.read_at.new.into means (subst (λ o. Reads o 0 c.read_at.new.into) content (ok_at ok c.read_at.ensures.bytes))
    (omega (arith, c.read_at.auto.into, c.requires)))
