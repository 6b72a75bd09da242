use Rattle.cod_shell.proofs.TextRead.{not_refused, two_left}
use Rattle.cod_run.proofs.serving.perform.Goals as goal

pub returns-in-Some-clause-complete : goal.returns-in-Some-clause-complete
returns-in-Some-clause-complete g c other is can source sink =
    two_left c.serve_text.result c.serve_text.ensures.statuses
    (λ three. not_refused (g.S.Source.left c.args.source.now) _ _ can (c.serve_text.ensures.refused three))
    (λ four. source (c.serve_text.ensures.source_failed four))
    (λ five. sink (c.serve_text.ensures.sink_failed five))
