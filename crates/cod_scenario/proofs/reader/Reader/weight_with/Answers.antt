use Rattle.std.proofs.Common.{◌≡◌, ap, arith, ◌∙◌}
use Rattle.cod_scenario.specs.Lines.{weight_of, line_weight}
use Rattle.cod_scenario.specs.Reading.{AddsTo}
use Rattle.cod_scenario.proofs.Totals.{adds_early, adds_late}
use Rattle.cod_scenario.proofs.reader.Reader.weight_with.Goals as goal
use Rattle.cod_scenario.proofs.reader.Reader.weight_with.Goals.{then-len-lt8, else-len-lt8}

pub returns : goal.returns
returns c =
    let lines = c.self.inside.said.items in
    let v : lines ≡ c.args.self.now.said = ap (λ h. h.said) c.self.view_is in
    let w : c.from.result ≡ weight_of lines = c.from.ensures ∙ c.self.invariant.weight_is in
    let total : AddsTo lines c.args.said.now c.saturating_add.result = elim c.if-len-lt8.branch [
      | then-len-lt8 b ↦ adds_early lines c.args.said.now c.from.result c.if-len-lt8.adds _
          (omega (arith, b.if-len-lt8.true, c.len.ensures, c.self.inside.said.ok)) w b.adds-is c.saturating_add.ensures
      | else-len-lt8 b ↦ adds_late lines c.args.said.now c.from.result c.if-len-lt8.adds _ (omega (arith, b.if-len-lt8.false, c.len.ensures, c.self.inside.said.ok)) w (b.adds-is
          ∙ (b.line_weight-adds.ensures ∙ ap (λ h. line_weight h c.args.said.now) c.self.invariant.header_is)) c.saturating_add.ensures
    ] in rw (← v) total
