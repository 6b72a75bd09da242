use Rattle.std.proofs.Common.{◌≡◌, ◌∙◌, sym, subst}
use Rattle.cod_tool.specs.declared.command.Command.TheVariants as command
use Rattle.cod_shell.proofs.TextRead.{not_refused, two_left}
use Rattle.cod_tool.specs.Replays.{CanServe}
use Rattle.cod_tool.proofs.serving.perform.Goals as goal

pub returns-in-Some-Scenario-clause-complete : goal.returns-in-Some-Scenario-clause-complete
returns-in-Some-Scenario-clause-complete g c other is can source sink =
    let left = g.S.Source.left c.args.source.now in
    let read = sym is ∙ (sym c.of.ensures.command ∙ c.in-Some-Scenario.is) in
    let same : other ≡ command.Scenario c.in-Some-Scenario.purpose = cc in
    let mine : CanServe (command.Scenario c.in-Some-Scenario.purpose) left = subst (λ k. CanServe k left) same can in
    two_left c.serve_text.result c.serve_text.ensures.statuses
    (λ three. not_refused left _ _ mine (c.serve_text.ensures.refused three))
    (λ four. source (c.serve_text.ensures.source_failed four))
    (λ five. sink (c.serve_text.ensures.sink_failed five))
