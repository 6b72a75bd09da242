use Rattle.std.proofs.Common.{◌≡◌, ◌++◌, ◌∷◌, List, Some, subst, sym, ◌∙◌}
use Rattle.cod_place.specs.Room.{Room}
use Rattle.cod_place.specs.Rooms.{AddUp, CameFrom, raised}
use Rattle.cod_seg.specs.Seg.{Col}
use Rattle.cod_stripe.proofs.Giving.{given_back, last_came, one_came, rooms_in}
use Rattle.cod_stripe.proofs.building.give_back.Goals as goal

pub give-requires-clause-came : goal.give-requires-clause-came
give-requires-clause-came g c =
    rw c.into_room.ensures (one_came c.columns.pools c.pop.new.self c.in-Some.column
    (subst (λ (cols : List Col). CameFrom c.columns.pools (rooms_in cols)) c.in-Some.ensures c.columns.invariant.came))

pub columns-preserved : goal.columns-preserved
columns-preserved g c =
    let room : c.into_room.result ≡ c.in-Some.column.room = c.into_room.ensures in
    let came = last_came c.columns.pools c.pop.new.self c.in-Some.column
    (subst (λ (cols : List Col). CameFrom c.columns.pools (rooms_in cols)) c.in-Some.ensures c.columns.invariant.came) in
    let free : Some c.give.new.self.free ≡ Some (raised c.in-Some.column.room.node.0 c.in-Some.column.room.bytes c.columns.pools.free) =
    subst (λ (r : Room). Some c.give.new.self.free ≡ Some (raised r.node.0 r.bytes c.columns.pools.free)) room c.give.ensures.free in
    record {
      came = c.give.ensures.came (rooms_in c.pop.new.self) (subst (λ (r : Room). CameFrom c.columns.pools (r ∷ rooms_in c.pop.new.self)) (sym room) came);
      rooms = λ rest adds. given_back c.columns.pools c.give.new.self c.pop.new.self c.in-Some.column rest c.give.ensures.sizes.1 free
          (subst (λ (cols : List Col). AddUp c.columns.pools (rooms_in cols ++ rest)) c.in-Some.ensures (c.columns.invariant.rooms rest adds));
      capacity = c.give.ensures.sizes.1 ∙ c.columns.invariant.capacity;
      nodes = c.give.ensures.sizes.0 ∙ c.columns.invariant.nodes;
    }

pub returns-clause-rooms : goal.returns-clause-rooms
returns-clause-rooms g c = λ rest adds.
    subst (λ (cols : List Col). AddUp c.columns.pools (rooms_in cols ++ rest)) c.in_default.ensures.0 (c.columns.invariant.rooms rest adds)
