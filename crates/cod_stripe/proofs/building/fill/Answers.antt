use Rattle.std.proofs.Common.{◌∙◌, ◌<◌, ◌++◌, refl, sym, arith}
use Rattle.cod_chronicle.specs.Said.{Site}
use Rattle.cod_stripe.specs.Building.{frail_below}
use Rattle.cod_stripe.proofs.Filling.{one_more, room_left}
use Rattle.cod_stripe.proofs.Frail.{sure_below}
use Rattle.cod_stripe.proofs.Giving.{all_came, filled, rooms_in}
use Rattle.cod_stripe.proofs.building.fill.Goals as goal

pub returns-in_err-column-clause-rooms : goal.returns-in_err-column-clause-rooms
returns-in_err-column-clause-rooms g c = λ rest adds.
    c.in_err-column.ensures.rooms (rooms_in c.loop-col.columns ++ rest) (c.loop-col.invariant.rooms rest adds)

pub returns-in_err-column-clause-came : goal.returns-in_err-column-clause-came
returns-in_err-column-clause-came g c = c.in_err-column.ensures.came (rooms_in c.loop-col.columns) c.loop-col.invariant.came

pub loop-col-preserved : goal.loop-col-preserved
loop-col-preserved g c =
    let never = (g.H.Shelf.regions c.args.shelf.now).never_fail in
    let frail = frail_below never c.args.nodes in
    let site : Site = record { shape = c.args.g; segment = c.args.segment.0; nodes = c.args.nodes; told = g.R.Region.tells } in
    let cols = c.loop-col.columns in
    let column = c.in_ok-column.column in
    let home = c.home-node.ensures.value in
    let below : c.loop-col.col < c.args.g.n = (let t = c.loop-col-test.true in let e = c.n-col-end.ensures in omega (arith, t, e)) in
    let new = c.in_ok-column.ensures.new site frail refl refl (sym home) (sure_below never c.args.nodes c.home-node.result c.home-node.ensures.there) in
    rw c.push.ensures (record {
      made = one_more site frail cols c.loop-col.col column c.loop-col.invariant.made new c.in_ok-column.ensures.untouched;
      free = room_left c.args.g c.args.segment.0 c.args.nodes c.loop-col.col c.loop-col.pools.free c.column.new.pools.free c.requires.some below c.loop-col.invariant.free
          (λ x other. c.column.ensures.free x (λ same. other (same ∙ home)));
      rooms = λ rest adds. filled c.column.new.pools cols column rest (c.in_ok-column.ensures.rooms (rooms_in cols ++ rest) (c.loop-col.invariant.rooms rest adds));
      came = all_came c.column.new.pools cols column (c.in_ok-column.ensures.came (rooms_in cols) c.loop-col.invariant.came);
      capacity = c.column.ensures.capacity ∙ c.loop-col.invariant.capacity;
      nodes = c.column.ensures.nodes ∙ c.loop-col.invariant.nodes;
    })
