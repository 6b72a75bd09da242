use Rattle.std.proofs.Common.{◌≡◌, ◌∙◌, sym, ap}
use Rattle.cod_seg.specs.Seg.{Col}
use Rattle.cod_repair.specs.Views.{state_in}
use Rattle.cod_repair.proofs.column.Column.put_base.Goals as goal

pub returns-clause-holds : goal.returns-clause-holds
returns-clause-holds g c =
    let e : c.in-Parity.column ≡ c.args.self.now.state = sym (ap state_in c.in-Parity.is) ∙ ap (λ (x : Col). x.state) c.self.view_is in
    rw (← e) (λ was records means. c.put-answer.ensures.holds was records means)
