use Rattle.std.proofs.Common.{◌≡◌, length, map, Vec, ap, ◌∙◌}
use Rattle.std.specs.Option.{option_map}
use Rattle.std.proofs.lemmas.List.{with_items_is, length-map}
use Rattle.cod_claims.specs.Changes.{Change, made}
use Rattle.cod_claims.proofs.Preparing.{paper_made}
use Rattle.cod_claims.proofs.slip.Slip.make_deltas.Goals as goal

pub invariant_of-self : goal.invariant_of-self
invariant_of-self c =
    let size : length c.make_each.new.deltas ≡ c.in-Some.deltas.len = ap length c.make_each.ensures ∙ length-map c.deref_mut.result.now made ∙ c.deref_mut.ensures.len in
    paper_made c.self.inside.call _ c.in-Some.deltas.items _ c.self.invariant (ap (option_map (λ (v : Vec Change _). v.items)) c.in-Some.is)
    (with_items_is c.in-Some.deltas c.make_each.new.deltas size ∙ c.make_each.ensures ∙ ap (map made) c.deref_mut.ensures.value)
