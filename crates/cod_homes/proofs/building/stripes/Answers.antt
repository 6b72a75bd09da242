use Rattle.std.proofs.Common.{◌≡◌, ◌+◌, List, ℕ, Bool, sym, ◌∙◌, subst, ap, arith}
use Rattle.cod_types.specs.Limits.{Shape}
use Rattle.cod_chronicle.specs.Said.{Site, site_as}
use Rattle.cod_seg.specs.Seg.{Seg}
use Rattle.cod_stripe.specs.Building.{AreUntouched, frail_below, HomesHaveRoom}
use Rattle.cod_homes.specs.Building.{AreBuilt}
use Rattle.cod_homes.specs.Building.{all_rooms}
use Rattle.cod_homes.proofs.Making.{built_more, built_none, homes_have_room}
use Rattle.cod_homes.proofs.building.stripes.Goals as goal

site_is : (site : Site) (g shape : Shape) (seg nodes count : ℕ) (tells told : Bool) → site ≡ record { shape = g; segment = seg; nodes = nodes; told = tells } → g ≡ shape → nodes ≡ count
    → told ≡ tells → site ≡ site_as told shape count seg
site_is site g shape seg nodes count tells told is same many tell =
    is ∙ ap (λ (x : Shape). site_as tells x nodes seg) same ∙ ap (λ (n : ℕ). site_as tells shape n seg) many ∙ sym (ap (λ (b : Bool). site_as b shape count seg) tell)

pub segments-init : goal.segments-init
segments-init g c =
    subst (λ (l : List Seg). AreBuilt c.args.scenario.now (g.H.Shelf.regions c.args.shelf.now) 0 l c.args.pools.now) (sym c.new-stripes.ensures.items)
    (built_none c.args.scenario.now (g.H.Shelf.regions c.args.shelf.now) c.args.pools.now c.requires.fresh)

pub build-requires-clause-pools : goal.build-requires-clause-pools
build-requires-clause-pools g c = c.segments.invariant.nodes ∙ sym c.nodes.ensures

pub build-requires-clause-room : goal.build-requires-clause-room
build-requires-clause-room g c =
    let room = homes_have_room c.args.scenario.now (g.H.Shelf.regions c.args.shelf.now) c.segments.seg c.segments.stripes.items c.segments.pools c.segments-count.ensures.sound
    c.segments.invariant (let a = c.segments-test.true in let b = c.segments-count.ensures.count in omega (arith, a, b)) in
    subst (λ (s : Shape). HomesHaveRoom s c.segments.seg c.nodes.result 0 c.segments.pools.free) (sym c.geometry-g.ensures)
    (subst (λ (n : ℕ). HomesHaveRoom c.args.scenario.now.shape c.segments.seg n 0 c.segments.pools.free) (sym c.nodes.ensures) room)

pub segments-preserved : goal.segments-preserved
segments-preserved g c =
    subst (λ (l : List Seg). AreBuilt c.args.scenario.now (g.H.Shelf.regions c.args.shelf.now) (c.segments.seg + 1) l c.build.new.pools) (sym c.in_ok-push.ensures.items)
    (built_more c.args.scenario.now (g.H.Shelf.regions c.args.shelf.now) c.segments.seg c.segments.stripes.items c.in_ok-build.field-0 c.segments.pools c.build.new.pools
    c.segments.invariant
    (record {
      new = c.in_ok-build.ensures.new;
      untouched = subst (λ (s : Shape). AreUntouched c.in_ok-build.field-0.cols s.n) c.geometry-g.ensures c.in_ok-build.ensures.untouched;
      site = site_is c.in_ok-build.field-0.site c.geometry-g.result.now c.args.scenario.now.shape c.segments.seg c.nodes.result c.args.scenario.now.nodes g.H.Region.Region.tells
          (g.H.Shelf.regions c.args.shelf.now).tell c.in_ok-build.ensures.site c.geometry-g.ensures c.nodes.ensures (g.met.H.Shelf.telling c.args.shelf.now);
      plain = c.in_ok-build.ensures.plain;
      frail = c.in_ok-build.ensures.frail ∙ ap (frail_below (g.H.Shelf.regions c.args.shelf.now).never_fail) c.nodes.ensures;
    })
    (c.in_ok-build.ensures.rooms (all_rooms c.segments.stripes.items) c.segments.invariant.sums) c.in_ok-build.ensures.capacity (c.in_ok-build.ensures.nodes ∙ c.nodes.ensures))

pub returns : goal.returns
returns g c =
    subst (λ (n : ℕ). AreBuilt c.args.scenario.now (g.H.Shelf.regions c.args.shelf.now) n c.segments.stripes.items c.segments.pools)
    (let a = c.segments-test.false in let b = c.segments-count.ensures.count in let d = c.segments.auto.seg-end in omega (arith, a, b, d)) c.segments.invariant
