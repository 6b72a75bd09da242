use Rattle.std.proofs.Common.{◌≡◌, Some, length, take}
use Rattle.cod_homes.specs.Building.{all_rooms}
use Rattle.cod_stripe.specs.Sharing.{Without}
use Rattle.cod_opening.proofs.Adopting.{AdoptedUpTo}
use Rattle.cod_opening.proofs.sharing.adopt.Given as goal

abbrev pub invariant-stripes : goal.invariant-stripes
invariant-stripes g l = record {
  adopted : AdoptedUpTo (Some l.pools.of) l.at l.fn.stripes.items l.stripes.items;
  seat : Without (all_rooms (take l.at l.fn.stripes.items)) l.fn.seat l.seat;
  count : l.count ≡ length l.fn.stripes.items;
}
