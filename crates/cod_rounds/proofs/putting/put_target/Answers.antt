use Rattle.std.proofs.Common.{inl, inr, sym, ap, ◌∙◌}
use Rattle.cod_seg.specs.Seg.{Rebuilding}
use Rattle.cod_rounds.proofs.Targeting.{breaks_on, puts_on}
use Rattle.cod_rounds.proofs.putting.put_target.Goals as goal

pub returns-then-is_ok-clause-puts : goal.returns-then-is_ok-clause-puts
returns-then-is_ok-clause-puts g c =
    inl (puts_on c.args.bench.now c.args.bytes.now _ c.args.rebuild.now c.in-Some.target c.put.new.self c.put.result c.rebuild.view_is c.in-Some.is c.requires.may (sym c.is_ok.ensures.value ∙ c.if-is_ok.true) c.put.ensures.puts
    c.put.ensures.full c.put.ensures.cause)

pub returns-clause-puts : goal.returns-clause-puts
returns-clause-puts g c =
    let may = c.requires.may c.in-Some.target (sym (ap (λ (x : Rebuilding). x.target) c.rebuild.view_is) ∙ c.in-Some.is) in
    inr (breaks_on c.args.bench.now c.args.bytes.now _ c.args.rebuild.now c.break_target.new.self c.in-Some.target c.put.new.self c.put.result c.rebuild.view_is c.in-Some.is may.clean (sym c.is_ok.ensures.value ∙ c.if-is_ok.false) c.put.ensures.puts
    c.put.ensures.cause c.put.ensures.sure c.break_target.ensures.becomes)
