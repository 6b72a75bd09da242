use Rattle.std.proofs.Common.{◌≡◌, ◌+◌, ◌<◌, ◌≤◌, ℕ, List, Some, length, map, replicate, refl, sym, ap, ◌∙◌, subst, arith}
use Rattle.std.proofs.lemmas.List.{length-map}
use Rattle.atomic_table.specs.Seated.{TableId}
use Rattle.cod_region.specs.Device.{AllRegions}
use Rattle.cod_types.specs.Limits.{Shape}
use Rattle.cod_place.specs.Free.{at_node, Pooled, Seated as PoolSeated}
use Rattle.cod_place.specs.Rooms.{bytes_on, Store}
use Rattle.cod_seg.specs.Pools.{owned}
use Rattle.cod_seg.specs.Seg.{Seg}
use Rattle.cod_homes.specs.Building.{all_rooms}
use Rattle.cod_pass.specs.States.{Common}
use Rattle.cod_opening.specs.Opening.{ArePasses, AreSeats, IsLeft, left_from}
use Rattle.cod_opening.proofs.Starting.{built_empty, built_plain, opened, starts, taken_by_rooms}
use Rattle.cod_opening.proofs.opening.open.Goals as goal

pub new-requires-clause-some : goal.new-requires-clause-some
new-requires-clause-some g c = let s = c.segments-sound.ensures.sound in let n = s.some_nodes in let e = c.nodes.ensures in omega (arith, n, e)

pub new-requires-clause-most : goal.new-requires-clause-most
new-requires-clause-most g c = let s = c.segments-sound.ensures.sound in let n = s.most_nodes in let e = c.nodes.ensures in omega (arith, n, e)

pub adopt-requires-clause-plain : goal.adopt-requires-clause-plain
adopt-requires-clause-plain g c =
    built_plain c.args.scenario.now (g.H.Shelf.regions c.args.shelf) (length c.args.scenario.now.segments) c.in_ok-stripes.stripes.items c.stripes.new.pools c.in_ok-pools.pools.of.words
    c.in_ok-stripes.ensures (c.in_ok-pools.ensures.pools.0 ∙ c.in_ok-stripes.ensures.nodes)

pub adopt-requires-clause-bytes : goal.adopt-requires-clause-bytes
adopt-requires-clause-bytes g c = λ node.
    let bytes : at_node node c.in_ok-pools.pool_seat.bytes ≡ bytes_on node (all_rooms c.in_ok-stripes.stripes.items) =
    ap (λ (s : PoolSeated). at_node node s.bytes) c.in_ok-pools.ensures.seat
    ∙ taken_by_rooms c.stripes.new.pools (all_rooms c.in_ok-stripes.stripes.items) node c.in_ok-stripes.ensures.sums in
    omega (arith, bytes)

pub turns-requires : goal.turns-requires
turns-requires g c =
    built_empty c.args.scenario.now (g.H.Shelf.regions c.args.shelf) (length c.args.scenario.now.segments) c.in_ok-stripes.stripes.items c.adopt.new.stripes.items c.stripes.new.pools
    c.in_ok-pools.pools.of c.in_ok-stripes.ensures c.adopt.ensures.stripes

pub passes-requires-clause-left : goal.passes-requires-clause-left
passes-requires-clause-left g c = (
  map (owned (Some c.in_ok-pools.pools.of)) c.in_ok-stripes.stripes.items,
  starts c.in_ok-pools.pools.of c.in_ok-turns.turns.items c.as_slice.result.now c.in_ok-stripes.stripes.items c.adopt.new.stripes.items c.in_ok-board.board c.in_ok-turns.seats.items
      c.in_ok-board.board_seat c.in_ok-pools.pool_seat c.adopt.new.seat c.stripes.new.pools c.as_slice.ensures.value c.in_ok-turns.ensures.1 c.adopt.ensures.stripes c.in_ok-board.ensures.seat
      c.in_ok-stripes.ensures.sums c.in_ok-pools.ensures.seat c.adopt.ensures.seat,
)

pub returns-clause-opened : goal.returns-clause-opened
returns-clause-opened g c =
    let regions = g.H.Shelf.regions c.args.shelf in
    let built = c.in_ok-stripes.ensures in
    let segs = c.in_ok-stripes.stripes.items in
    let new = map (owned (Some c.in_ok-pools.pools.of)) segs in
    let first = starts c.in_ok-pools.pools.of c.in_ok-turns.turns.items c.as_slice.result.now c.in_ok-stripes.stripes.items c.adopt.new.stripes.items c.in_ok-board.board c.in_ok-turns.seats.items
    c.in_ok-board.board_seat c.in_ok-pools.pool_seat c.adopt.new.seat c.stripes.new.pools c.as_slice.ensures.value c.in_ok-turns.ensures.1 c.adopt.ensures.stripes c.in_ok-board.ensures.seat
    c.in_ok-stripes.ensures.sums c.in_ok-pools.ensures.seat c.adopt.ensures.seat in
    let turns = c.as_slice.ensures.value in
    let x = c.args.scenario.now in
    let common : Common = record { turns = c.in_ok-turns.turns.items; board = c.in_ok-board.board; pools = c.in_ok-pools.pools; regions = regions } in
    let left = subst (λ (t : List TableId). IsLeft t new c.in_ok-board.board c.in_ok-pools.pools.of c.args.callers c.passes.new.rest) turns (c.in_ok-passes.ensures.left new first) in
    let are = subst (λ (t : List TableId). ArePasses t new c.geometry.result.now c.in_ok-board.board c.in_ok-pools.pools.of c.args.callers c.in_ok-passes.passes.items) turns
    (c.in_ok-passes.ensures.passes new first) in
    opened x c.args.callers c.requires common segs c.stripes.new.pools
    (record {
      turns = c.in_ok-turns.ensures.0 ∙ (ap length c.adopt.ensures.stripes ∙ (length-map segs (owned (Some c.in_ok-pools.pools.of)) ∙ built.size));
      board = c.in_ok-board.ensures.nodes ∙ c.nodes-2.ensures;
      pools = c.in_ok-pools.ensures.pools.0 ∙ built.nodes;
      capacity = c.in_ok-pools.ensures.pools.1 ∙ built.capacity;
    })
    built c.passes.new.rest c.in_ok-passes.passes.items left
    (subst (λ (s : Shape). ArePasses c.in_ok-turns.turns.items (map (owned (Some c.in_ok-pools.pools.of)) segs) s c.in_ok-board.board c.in_ok-pools.pools.of c.args.callers c.in_ok-passes.passes.items)
    c.geometry.ensures are)
