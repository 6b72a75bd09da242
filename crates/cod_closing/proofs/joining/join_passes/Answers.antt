use Rattle.std.proofs.Common.{length, refl, sym, ap, ◌∙◌, subst}
use Rattle.std.proofs.lemmas.Iterator.Adapters.{YieldsList-from_vec}
use Rattle.std.proofs.lemmas.Iterator.Consumers.{YieldsList-turn}
use Rattle.std.proofs.lemmas.Option.{slice_get_read}
use Rattle.cod_pass.specs.States.{RestState}
use Rattle.cod_closing.specs.Joining.{IsOurs, with_pass}
use Rattle.cod_closing.proofs.Seats.{ours_more, with_more}
use Rattle.cod_closing.proofs.joining.join_passes.Goals as goal

pub join_pass-requires-clause-pass : goal.join_pass-requires-clause-pass
join_pass-requires-clause-pass g c =
    let gives = c.into_iter-pass-iterator.ensures.into_iter_gives in
    let t = YieldsList-turn (YieldsList-from_vec {s = c.into_iter-pass-iterator.result} c.args.passes.items gives.0 (gives.1
    ∙ c.args.passes.ok.0)) c.passes.yielded c.passes.pass-iterator c.passes.yielded_by c.next.result c.next.new.self c.in-Some.pass c.in-Some.is c.next.ensures.steps in
    c.requires.passes (length c.passes.yielded) c.in-Some.pass
    (slice_get_read c.args.passes.items (length c.args.passes.items) (length c.passes.yielded) c.in-Some.pass refl t.0 t.1)

pub passes-preserved : goal.passes-preserved
passes-preserved g c =
    let gives = c.into_iter-pass-iterator.ensures.into_iter_gives in
    let t = YieldsList-turn (YieldsList-from_vec {s = c.into_iter-pass-iterator.result} c.args.passes.items gives.0 (gives.1
    ∙ c.args.passes.ok.0)) c.passes.yielded c.passes.pass-iterator c.passes.yielded_by c.next.result c.next.new.self c.in-Some.pass c.in-Some.is c.next.ensures.steps in
    let theirs = c.requires.passes (length c.passes.yielded) c.in-Some.pass
    (slice_get_read c.args.passes.items (length c.args.passes.items) (length c.passes.yielded) c.in-Some.pass refl t.0 t.1) in
    record {
      joined = c.join_pass.ensures ∙ (ap (λ (r : RestState). with_pass r c.in-Some.pass) c.passes.invariant.joined
          ∙ sym (with_more c.args.rest.now c.passes.yielded c.in-Some.pass));
      ours = subst (IsOurs c.args.turns.now c.args.shared.now.board c.args.shared.now.pools.of) (sym c.join_pass.ensures)
          (ours_more c.args.turns.now c.args.shared.now.board c.args.shared.now.pools.of c.passes.rest c.in-Some.pass c.passes.invariant.ours theirs);
    }
