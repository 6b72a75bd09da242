use Rattle.std.proofs.Common.{◌≡◌, Some, sym, ap, ◌∙◌, subst}
use Rattle.cod_seg.specs.Seg.{Rebuilding, Seg}
use Rattle.cod_seg.specs.Sound.{AreBroken, IsRebuilding, MayRebuild}
use Rattle.cod_placing.proofs.starting.place_for_rebuild.Goals as goal

pub place_for-requires-clause-broken : goal.place_for-requires-clause-broken
place_for-requires-clause-broken g c =
    let s = c.args.segment.now in
    let was : s.rebuild ≡ Some c.in-Some.rebuild = ap (λ (x : Seg). x.rebuild) (sym c.segment.view_is) ∙ c.in-Some.is in
    let is : IsRebuilding s.site s.frail s.pools s.log c.in-Some.rebuild = subst (MayRebuild s.site s.frail s.pools s.log) was c.requires.sound.rebuilt in
    subst (AreBroken s.frail) (ap (λ (x : Rebuilding). x.broken) (sym c.rebuild.view_is)) is.honest
