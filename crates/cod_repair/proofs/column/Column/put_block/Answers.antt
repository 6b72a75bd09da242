use Rattle.std.proofs.Common.{◌≡◌, ◌∙◌, sym, ap, subst}
use Rattle.cod_region.specs.Device.{Device}
use Rattle.cod_parity.specs.State.{empty, State}
use Rattle.cod_seg.specs.Seg.{Col}
use Rattle.cod_repair.specs.Columns.{IsFull}
use Rattle.cod_repair.specs.Views.{state_in}
use Rattle.cod_repair.proofs.Putting.{put_data}
use Rattle.cod_repair.proofs.column.Column.put_block.Goals as goal

pub returns-clause-puts : goal.returns-clause-puts
returns-clause-puts g c =
    let e : empty c.in-Data.field-0 0 10000 c.in-Data.column ≡ c.args.self.now.state = sym (ap state_in c.in-Data.is) ∙ ap (λ (x : Col). x.state) c.self.view_is in
    let full = subst (λ (d : Device). IsFull d) (sym (ap (λ (s : State). s.device) e)) c.full.ensures in
    rw (← e) (put_data c.put-answer.result c.in-Data.field-0 c.in-Data.column c.put-answer.new.self c.args.bytes.now
    full (c.requires.long ∙ sym (ap (λ (s : State). s.device.size) e)) c.put-answer.ensures.content c.put-answer.ensures.same c.put-answer.ensures.cause)
