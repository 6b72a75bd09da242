use Rattle.std.proofs.Common.{◌≡◌, ◌∙◌, List, length, sym, ap, subst}
use Rattle.atomic_table.specs.Seated.{TableId}
use Rattle.cod_board.specs.declared.view.View.{View as BoardView}
use Rattle.cod_board.specs.Seats.{IsClosed as IsClosedBoard}
use Rattle.cod_place.specs.Free.{Seated as PoolSeated}
use Rattle.cod_seg.specs.Seg.{Seg}
use Rattle.cod_stripe.specs.Sharing.{Without}
use Rattle.cod_turn.specs.Seats.{Seated}
use Rattle.cod_homes.specs.Building.{all_rooms}
use Rattle.cod_pass.specs.States.{Common, RestState}
use Rattle.cod_closing.specs.Joining.{IsOurs, IsTheirs, with_passes}
use Rattle.cod_closing.specs.Closing.{AreLast, AreReleased}
use Rattle.cod_closing.proofs.Ends.{all_ours, are_last, board_full, closed_of, each_theirs, first_ours}
use Rattle.cod_closing.proofs.closing.close.Goals as goal

pub join_passes-requires-clause-first : goal.join_passes-requires-clause-first
join_passes-requires-clause-first g c =
    let common : Common = record { turns = c.args.turns.items; board = c.args.shared.board; pools = c.args.shared.pools; regions = g.H.Shelf.regions c.args.shared.shelf } in
    subst (λ (turns : List TableId). IsOurs turns c.args.shared.board c.args.shared.pools.of c.args.rest) (sym c.as_slice.ensures.value)
    (first_ours c.requires.whole.0 common c.args.rest c.args.passes.items c.requires.whole.1)

pub join_passes-requires-clause-passes : goal.join_passes-requires-clause-passes
join_passes-requires-clause-passes g c =
    let common : Common = record { turns = c.args.turns.items; board = c.args.shared.board; pools = c.args.shared.pools; regions = g.H.Shelf.regions c.args.shared.shelf } in
    λ i p is. subst (λ (turns : List TableId). IsTheirs turns c.args.shared.board c.args.shared.pools.of p) (sym c.as_slice.ensures.value)
    (each_theirs c.requires.whole.0 common c.args.rest c.args.passes.items c.requires.whole.1 i p is)

pub close_turns-stripes-requires-clause-last : goal.close_turns-stripes-requires-clause-last
close_turns-stripes-requires-clause-last g c =
    let common : Common = record { turns = c.args.turns.items; board = c.args.shared.board; pools = c.args.shared.pools; regions = g.H.Shelf.regions c.args.shared.shelf } in
    let seats : c.rest.inside.seats.items ≡ (with_passes c.args.rest c.args.passes.items).seats = ap (λ (r : RestState). r.seats) (c.rest.view_is ∙ c.join_passes.ensures) in
    subst (AreLast c.args.shared.pools.of c.args.turns.items) (sym seats) (are_last c.requires.whole.0 common c.args.rest c.args.passes.items c.requires.whole.1)

pub close-requires-clause-all : goal.close-requires-clause-all
close-requires-clause-all g c =
    let common : Common = record { turns = c.args.turns.items; board = c.args.shared.board; pools = c.args.shared.pools; regions = g.H.Shelf.regions c.args.shared.shelf } in
    ap (λ (r : RestState). length r.board.knows.numbers) (c.rest.view_is ∙ c.join_passes.ensures)
    ∙ board_full c.requires.whole.0 common c.args.rest c.args.passes.items c.requires.whole.1

pub returns : goal.returns
returns g c = λ x whole.
    let common : Common = record { turns = c.args.turns.items; board = c.args.shared.board; pools = c.args.shared.pools; regions = g.H.Shelf.regions c.args.shared.shelf } in
    let values = c.close_turns-stripes.result.items in
    let seat = c.close_turns-stripes.new.pool_seat in
    let rest = c.rest.view_is ∙ c.join_passes.ensures in
    let seats : c.rest.inside.seats.items ≡ (with_passes c.args.rest c.args.passes.items).seats = ap (λ (r : RestState). r.seats) rest in
    let pools : c.rest.inside.pools ≡ (with_passes c.args.rest c.args.passes.items).pools = ap (λ (r : RestState). r.pools) rest in
    let board : c.rest.inside.board.knows ≡ (with_passes c.args.rest c.args.passes.items).board.knows = ap (λ (r : RestState). r.board.knows) rest in
    closed_of x common c.args.rest c.args.passes.items whole values c.close.result c.close-2.result seat c.close_turns-stripes.ensures.count
    (subst (λ (l : List (Seated Seg)). AreReleased l values) seats c.close_turns-stripes.ensures.released)
    (subst (λ (z : PoolSeated). Without (all_rooms values) seat z) pools c.close_turns-stripes.ensures.rooms)
    (subst (λ (v : BoardView). IsClosedBoard c.args.shared.board.words v c.close.result) board c.close.ensures) c.close-2.ensures.capacity.0 c.close-2.ensures.capacity.1
    c.close-2.ensures.sums

pub close_turns-stripes-requires-clause-pools : goal.close_turns-stripes-requires-clause-pools
close_turns-stripes-requires-clause-pools g c =
    let common : Common = record { turns = c.args.turns.items; board = c.args.shared.board; pools = c.args.shared.pools; regions = g.H.Shelf.regions c.args.shared.shelf } in
    ap (λ (r : RestState). r.pools.of) (c.rest.view_is ∙ c.join_passes.ensures)
    ∙ (all_ours c.requires.whole.0 common c.args.rest c.args.passes.items c.requires.whole.1).pools_are

pub close-requires-clause-board : goal.close-requires-clause-board
close-requires-clause-board g c =
    let common : Common = record { turns = c.args.turns.items; board = c.args.shared.board; pools = c.args.shared.pools; regions = g.H.Shelf.regions c.args.shared.shelf } in
    ap (λ (r : RestState). r.board.of) (c.rest.view_is ∙ c.join_passes.ensures)
    ∙ (all_ours c.requires.whole.0 common c.args.rest c.args.passes.items c.requires.whole.1).board_is

pub close-requires-2 : goal.close-requires-2
close-requires-2 g c =
    let common : Common = record { turns = c.args.turns.items; board = c.args.shared.board; pools = c.args.shared.pools; regions = g.H.Shelf.regions c.args.shared.shelf } in
    record {
      pools = sym c.close_turns-stripes.ensures.rooms.of ∙ (ap (λ (r : RestState). r.pools.of) (c.rest.view_is ∙ c.join_passes.ensures)
          ∙ (all_ours c.requires.whole.0 common c.args.rest c.args.passes.items c.requires.whole.1).pools_are);
    }
