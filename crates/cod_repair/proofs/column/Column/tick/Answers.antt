use Rattle.std.proofs.Common.{◌≡◌, ◌∙◌, sym, ap}
use Rattle.cod_seg.specs.Seg.{Col}
use Rattle.cod_repair.specs.Views.{state_in}
use Rattle.cod_repair.proofs.column.Column.tick.Goals as goal

pub tick-answer-requires-clause-room : goal.tick-answer-requires-clause-room
tick-answer-requires-clause-room g c =
    let e : c.in-Parity.column ≡ c.args.self.now.state = sym (ap state_in c.in-Parity.is) ∙ ap (λ (x : Col). x.state) c.self.view_is in
    rw e c.requires.room
