use Rattle.cod_homes.specs.Building.{AreBuilt}
use Rattle.cod_homes.proofs.building.stripes.Given as goal

abbrev pub invariant-segments : goal.invariant-segments
invariant-segments g l = AreBuilt l.scenario (g.H.Shelf.regions l.shelf) l.seg l.stripes.items l.pools
