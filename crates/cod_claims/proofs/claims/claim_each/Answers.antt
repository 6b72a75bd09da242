use Rattle.std.proofs.Common.{List, refl, sym, ap, ◌∙◌, length-set}
use Rattle.std.specs.Vec.Iter.{into_iter_items}
use Rattle.cod_claims.specs.Changes.{Change}
use Rattle.cod_claims.specs.Claimed.{with_claims}
use Rattle.cod_claims.proofs.Claiming.{rest_inside, empty_list}
use Rattle.cod_claims.proofs.claims.claim_each.Goals as goal

pub loop-delta-init : goal.loop-delta-init
loop-delta-init c =
    let all = c.into_iter-delta-iterator.ensures.into_iter_gives.0 in
    record {
      rest = ap (λ (xs : List Change). with_claims c.args.caller c.args.number xs c.args.slots.now) all;
      size = refl;
      inside = rw all c.requires;
    }

pub loop-delta-preserved : goal.loop-delta-preserved
loop-delta-preserved c =
    let steps = c.in-Some.ensures.steps.0 in
    let size = length-set c.loop-delta.slots c.part-block.result.block c.claim_one.new.slot in
    record {
      rest = rw (c.claim_one.ensures, c.part-block.ensures) (ap (λ (xs : List Change). with_claims c.args.caller c.args.number xs c.loop-delta.slots) (sym steps) ∙ c.loop-delta.invariant.rest);
      size = size ∙ c.loop-delta.invariant.size;
      inside = rest_inside _ _ _ _ _ steps size c.loop-delta.invariant.inside;
    }

pub returns : goal.returns
returns c =
    let none = empty_list (into_iter_items c.loop-delta.delta-iterator) (sym c.loop-delta.delta-iterator.rest.ok.0 ∙ c.in-None.ensures.steps.0) in
    ap (λ (xs : List Change). with_claims c.args.caller c.args.number xs c.loop-delta.slots) (sym none) ∙ c.loop-delta.invariant.rest
