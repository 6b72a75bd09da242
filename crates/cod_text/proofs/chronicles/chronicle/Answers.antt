use Rattle.std.proofs.Common.{◌++◌, ◌∙◌, [], ◌∷◌, sym, List, ℕ, length, map, refl}
use Rattle.std.specs.List.{flat_map}
use Rattle.std.proofs.lemmas.List.{length-map}
use Rattle.cod_chronicle.specs.Order.{Placed, place}
use Rattle.cod_text.specs.Printed.{line_text}
use Rattle.cod_print.proofs.Fronts.{append_known-nil, took_front, took_more, flat_map_next, one_done, text_more}
use Rattle.cod_text.proofs.Within.{within_rest}
use Rattle.std.proofs.lemmas.Result.{err_from_is_err_and}
use Rattle.cod_text.proofs.chronicles.chronicle.Goals as goal

pub loop-placed-init : goal.loop-placed-init
loop-placed-init g c =
    let is = c.into_iter-placed-iterator.ensures.into_iter_gives ∙ c.merge_order-placed-items.ensures in record {
      taken = ([], sym is, append_known-nil _);
      within = within_rest (map g.T.Stands.entries c.args.all.now) [] _ (length c.args.all.now) (length-map c.args.all.now g.T.Stands.entries) (sym is);
      same = refl;
    }

pub loop-placed-preserved : goal.loop-placed-preserved
loop-placed-preserved g c =
    let i = c.loop-placed.invariant.taken in
    let f : Placed → List ℕ = λ p. line_text c.args.names.now p in
    let p = place c.in-Some.placed.index c.in-Some.placed.entry.now in
    let done = one_done _ _ _ _ _ i.1 c.in-Some.ensures.steps in record {
      taken = (i.0 ++ p ∷ [], done, rw text_more (took_more _ _ _ _ _ i.2 c.in_ok-entry.ensures.text));
      within = within_rest (map g.T.Stands.entries c.args.all.now) (i.0 ++ p ∷ []) _ (length c.args.all.now) (length-map c.args.all.now g.T.Stands.entries) done;
      same = c.in_ok-entry.ensures.cause.kept ∙ c.loop-placed.invariant.same;
    }

pub returns-in_err-entry-clause-text : goal.returns-in_err-entry-clause-text
returns-in_err-entry-clause-text g c =
    let p = err_from_is_err_and c.from_residual.result c.from_residual.ensures.1 in
    let i = c.loop-placed.invariant.taken in
    let f : Placed → List ℕ = λ p. line_text c.args.names.now p in
    let q = place c.in-Some.placed.index c.in-Some.placed.entry.now in
    rw (p.1) (took_front _ _ _ _ (flat_map f i.0) (f q) _ i.2 c.in_err-entry.ensures.text (flat_map_next f _ i.0 _ _ q i.1 c.in-Some.ensures.steps))
