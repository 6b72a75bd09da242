use Rattle.std.proofs.Common.{◌≡◌, ◌∙◌, sym, ap}
use Rattle.cod_seg.specs.Seg.{Col}
use Rattle.cod_repair.specs.Views.{state_in}
use Rattle.cod_repair.proofs.column.Column.merge.Goals as goal

pub returns-clause-merges : goal.returns-clause-merges
returns-clause-merges g c =
    let e : c.in-Parity.column ≡ c.args.self.now.state = sym (ap state_in c.in-Parity.is) ∙ ap (λ (x : Col). x.state) c.self.view_is in
    rw (← e) c.merge-answer.ensures.merges

pub returns-clause-used : goal.returns-clause-used
returns-clause-used g c =
    let e : c.in-Parity.column ≡ c.args.self.now.state = sym (ap state_in c.in-Parity.is) ∙ ap (λ (x : Col). x.state) c.self.view_is in
    rw (← e) c.merge-answer.ensures.used
