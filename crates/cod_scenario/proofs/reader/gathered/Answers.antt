use Rattle.std.proofs.Common.{sym, ap, ◌∙◌, map-id}
use Rattle.std.proofs.lemmas.Iterator.Adapters.{YieldsList-from_vec}
use Rattle.std.proofs.lemmas.Iterator.Consumers.{YieldsList-end}
use Rattle.cod_scenario.specs.Lines.{body_of, with_line}
use Rattle.cod_scenario.proofs.Gathering.{body_more, body_none}
use Rattle.cod_scenario.proofs.reader.gathered.Goals as goal

pub loop-line-init : goal.loop-line-init
loop-line-init c = c.new-body.ensures ∙ sym body_none

pub loop-line-preserved : goal.loop-line-preserved
loop-line-preserved c = c.in_ok-add.ensures ∙ (ap (λ p. with_line p c.in-Some.line) c.loop-line.invariant ∙ sym (body_more c.loop-line.yielded c.in-Some.line))

pub returns : goal.returns
returns c =
    let gives = c.into_iter-line-iterator.ensures.into_iter_gives in
    let e = YieldsList-end (YieldsList-from_vec {s = c.into_iter-line-iterator.result} c.args.said.items gives.0 (gives.1
    ∙ c.args.said.ok.0)) c.loop-line.yielded c.loop-line.line-iterator c.loop-line.yielded_by c.next.result c.next.new.self c.in-None.is c.next.ensures.steps in
    c.loop-line.invariant ∙ ap body_of (sym (map-id c.loop-line.yielded) ∙ e.0)
