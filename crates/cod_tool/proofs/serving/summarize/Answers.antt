use Rattle.std.proofs.Common.{List, map, subst}
use Rattle.cod_seg.specs.Seg.{Seg}
use Rattle.cod_print.specs.Puts.{TakesFront}
use Rattle.cod_text.specs.Summary.{summary_text}
use Rattle.cod_tool.specs.Ends.{run_summary}
use Rattle.cod_shell.specs.Taking.{TakesAll}
use Rattle.cod_tool.proofs.Runs.{ran_of}
use Rattle.cod_tool.proofs.serving.summarize.Goals as goal

pub returns-in-Ok-summary-clause-done : goal.returns-in-Ok-summary-clause-done
returns-in-Ok-summary-clause-done g c = λ _.
    ran_of _ _ c.in-Ok.replay run_summary (TakesAll (g.W.Sink.taken c.args.sink.now) (g.W.Sink.taken c.summary.new.sink)) c.in-Ok.ensures
    (subst (λ (l : List Seg). TakesAll (g.W.Sink.taken c.args.sink.now) (g.W.Sink.taken c.summary.new.sink) (summary_text (map (λ (s : Seg). s.log) l))) c.stripes.ensures.segments
    c.in-Ok-summary.ensures.text)

pub returns-in-Ok-clause-front : goal.returns-in-Ok-clause-front
returns-in-Ok-clause-front g c = λ _.
    ran_of _ _ c.in-Ok.replay run_summary (TakesFront (g.W.Sink.taken c.args.sink.now) (g.W.Sink.taken c.summary.new.sink)) c.in-Ok.ensures
    (subst (λ (l : List Seg). TakesFront (g.W.Sink.taken c.args.sink.now) (g.W.Sink.taken c.summary.new.sink) (summary_text (map (λ (s : Seg). s.log) l))) c.stripes.ensures.segments
    c.in-Err-summary.ensures.text)
