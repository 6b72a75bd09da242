use Rattle.std.proofs.Common.{◌+◌, ◌∙◌, take, drop, subst, arith}
use Rattle.std.specs.List.{flat_map}
use Rattle.std.proofs.lemmas.Result.{err_from_is_err_and}
use Rattle.cod_seg.specs.Seg.{Seg}
use Rattle.cod_print.specs.Puts.{TakesFront}
use Rattle.cod_print.proofs.Fronts.{took_front, took_more, flat_map_split}
use Rattle.cod_shell.specs.Lines.{columns_text}
use Rattle.cod_shell.proofs.Texts.{slices_more}
use Rattle.cod_shell.proofs.printing.layouts.Goals as goal

pub returns-in_err-columns-clause-text : goal.returns-in_err-columns-clause-text
returns-in_err-columns-clause-text g c =
    let p = err_from_is_err_and c.from_residual.result c.from_residual.ensures.1 in
    let f = columns_text c.args.names.now in
    let all = c.args.stripes.now in
    let i = c.loop-stripe.stripe-index in
    let h = subst (λ (s : Seg). TakesFront (g.W.Sink.taken c.loop-stripe.sink) (g.W.Sink.taken c.columns.new.sink) (f s)) c.stripe-item.is c.in_err-columns.ensures.text in
    rw p.1 (took_front _ _ _ (flat_map f all) (flat_map f (take i all)) _ (flat_map f (drop (i + 1) all)) c.loop-stripe.invariant.taken h (flat_map_split f all i _ (omega arith)))

pub loop-stripe-preserved : goal.loop-stripe-preserved
loop-stripe-preserved g c = record {
  taken = rw (slices_more (columns_text c.args.names.now) c.args.stripes.now c.loop-stripe.stripe-index c.stripe-item.result (omega arith) c.stripe-item.is)
      (took_more _ _ _ _ _ c.loop-stripe.invariant.taken c.in_ok-columns.ensures.text);
  same = c.in_ok-columns.ensures.cause.kept ∙ c.loop-stripe.invariant.same;
}
