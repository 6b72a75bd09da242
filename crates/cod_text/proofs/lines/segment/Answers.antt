use Rattle.std.proofs.Common.{◌++◌, ◌∙◌, [], ◌∷◌, List, ℕ}
use Rattle.std.specs.List.{flat_map}
use Rattle.cod_chronicle.specs.declared.entry.Entry.{Entry}
use Rattle.cod_chronicle.specs.Order.{place}
use Rattle.cod_text.specs.Printed.{line_text}
use Rattle.cod_print.proofs.Fronts.{took_front, took_more, flat_map_next, one_done, text_more}
use Rattle.std.proofs.lemmas.Result.{err_from_is_err_and}
use Rattle.cod_text.proofs.lines.segment.Goals as goal

pub loop-e-preserved : goal.loop-e-preserved
loop-e-preserved g c =
    let i = c.loop-e.invariant.taken in
    let f : Entry → List ℕ = λ e. line_text c.args.names.now (place c.args.seg.0 e) in record {
      taken = (i.0 ++ c.in-Some.e.now ∷ [], one_done _ _ _ _ _ i.1 c.in-Some.ensures.steps, rw text_more (took_more _ _ _ _ _ i.2 c.in_ok-entry.ensures.text));
      same = c.in_ok-entry.ensures.cause.kept ∙ c.loop-e.invariant.same;
    }

pub returns-in_err-entry-clause-text : goal.returns-in_err-entry-clause-text
returns-in_err-entry-clause-text g c =
    let p = err_from_is_err_and c.from_residual.result c.from_residual.ensures.1 in
    let i = c.loop-e.invariant.taken in
    let f : Entry → List ℕ = λ e. line_text c.args.names.now (place c.args.seg.0 e) in
    rw (p.1) (took_front _ _ _ _ (flat_map f i.0) (f c.in-Some.e.now) _ i.2 c.in_err-entry.ensures.text (flat_map_next f _ i.0 _ _ c.in-Some.e.now i.1 c.in-Some.ensures.steps))
