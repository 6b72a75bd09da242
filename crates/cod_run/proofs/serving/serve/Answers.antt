use Rattle.cod_print.specs.Puts.{TakesFront}
use Rattle.cod_shell.specs.Taking.{TakesAll}
use Rattle.cod_run.specs.Ends.{End}
use Rattle.cod_run.proofs.Texts.{printable_bare, ran_of}
use Rattle.cod_run.proofs.serving.serve.Goals as goal

pub print-requires : goal.print-requires
print-requires g c = printable_bare c.args.scenario c.played.new.scenario c.in-Ok.closed.stripes.items c.in-Ok.closed.board c.in-Ok.closed.pools c.in-Ok.ensures.bare c.in-Ok.ensures.left

pub returns-in-Ok-print-clause-done : goal.returns-in-Ok-print-clause-done
returns-in-Ok-print-clause-done g c = λ _.
    let e : End = record { segs = c.in-Ok.closed.stripes.items; kills = c.in-Ok.closed.board } in
    ran_of (g.H.Shelf.regions c.args.shelf) c.args.command c.args.scenario c.played.new.scenario e (TakesAll (g.W.Sink.taken c.args.sink.now) (g.W.Sink.taken c.print.new.sink))
    c.in-Ok.ensures.end c.in-Ok.ensures.bare c.in-Ok-print.ensures.text

pub returns-in-Ok-clause-front : goal.returns-in-Ok-clause-front
returns-in-Ok-clause-front g c = λ _.
    let e : End = record { segs = c.in-Ok.closed.stripes.items; kills = c.in-Ok.closed.board } in
    ran_of (g.H.Shelf.regions c.args.shelf) c.args.command c.args.scenario c.played.new.scenario e (TakesFront (g.W.Sink.taken c.args.sink.now) (g.W.Sink.taken c.print.new.sink))
    c.in-Ok.ensures.end c.in-Ok.ensures.bare c.in-Err-print.ensures.text
