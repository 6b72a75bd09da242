use Rattle.cod_shell.proofs.TextRead.{reads_as}
use Rattle.cod_run.proofs.serving.serve_text.Goals as goal

pub returns-in-Ok-read-clause-done : goal.returns-in-Ok-read-clause-done
returns-in-Ok-read-clause-done g c = λ z.
    reads_as _ _ _ c.in-Ok.text.items c.as_slice.result.now c.in-Ok-read.scenario c.in-Ok.ensures.read c.in-Ok.ensures.end c.as_slice.ensures.value c.in-Ok-read.ensures (c.serve.ensures.done z)

pub returns-in-Ok-read-clause-front : goal.returns-in-Ok-read-clause-front
returns-in-Ok-read-clause-front g c = λ z.
    reads_as _ _ _ c.in-Ok.text.items c.as_slice.result.now c.in-Ok-read.scenario c.in-Ok.ensures.read c.in-Ok.ensures.end c.as_slice.ensures.value c.in-Ok-read.ensures (c.serve.ensures.front z)
