use Rattle.cod_print.specs.Puts.{TakesFront}
use Rattle.cod_tool.specs.Ends.{run_text}
use Rattle.cod_shell.specs.Taking.{TakesAll}
use Rattle.cod_tool.proofs.Runs.{ran_of}
use Rattle.cod_tool.proofs.serving.replay.Goals as goal

pub returns-in-Ok-print-clause-done : goal.returns-in-Ok-print-clause-done
returns-in-Ok-print-clause-done g c = λ _.
    ran_of _ _ c.in-Ok.replay run_text (TakesAll (g.W.Sink.taken c.args.sink.now) (g.W.Sink.taken c.print.new.sink)) c.in-Ok.ensures c.in-Ok-print.ensures.text

pub returns-in-Ok-clause-front : goal.returns-in-Ok-clause-front
returns-in-Ok-clause-front g c = λ _.
    ran_of _ _ c.in-Ok.replay run_text (TakesFront (g.W.Sink.taken c.args.sink.now) (g.W.Sink.taken c.print.new.sink)) c.in-Ok.ensures c.in-Err-print.ensures.text
