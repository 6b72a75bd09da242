use Rattle.std.proofs.Common.{◌≡◌, ◌<◌, ◌≤◌, Some, length, sym, subst, arith}
use Rattle.cod_place.specs.Free.{at_node, less}
use Rattle.cod_seg.specs.Seg.{Col}
use Rattle.cod_stripe.proofs.Rooming.{adopted_one, has_room, owned_all, owned_more}
use Rattle.cod_stripe.proofs.sharing.adopt_columns.Goals as goal

pub adopt-requires-clause-bytes : goal.adopt-requires-clause-bytes
adopt-requires-clause-bytes g c =
    let cols = c.args.columns.now in
    let low : c.columns.col < length cols = let t = c.columns-test.true in let n = c.columns.invariant.count in omega (arith, t, n) in
    subst (λ (x : Col). x.room.bytes ≤ at_node x.room.node.0 c.columns.seat.bytes) (sym (c.columns.invariant.owned.left c.columns.col (omega arith)))
    (has_room c.columns.col cols c.args.seat.now c.columns.seat low c.columns.invariant.seat c.requires.bytes)

pub columns-preserved : goal.columns-preserved
columns-preserved g c =
    let cols = c.args.columns.now in
    let mid = c.columns.seat in
    let low : c.columns.col < length cols = let t = c.columns-test.true in let n = c.columns.invariant.count in omega (arith, t, n) in
    let same = c.columns.invariant.owned.left c.columns.col (omega arith) in
    let within = has_room c.columns.col cols c.args.seat.now mid low c.columns.invariant.seat c.requires.bytes in
    let seat = subst (λ (x : Col). c.adopt.new.seat ≡ record mid { bytes = less x.room.node.0 x.room.bytes mid.bytes }) same c.adopt.ensures.seat in
    record {
      owned = owned_more (Some c.args.shared.now.of) c.columns.col cols c.columns.columns c.adopt.new.self low c.columns.invariant.owned c.adopt.ensures.room;
      seat = adopted_one c.columns.col cols c.args.seat.now mid c.adopt.new.seat low c.columns.invariant.seat within seat;
      count = c.columns.invariant.count;
    }

pub returns-clause-columns : goal.returns-clause-columns
returns-clause-columns g c =
    let n = c.columns.invariant.count in
    let t = c.columns-test.false in
    let e = c.columns.auto.col-end in
    owned_all (Some c.args.shared.now.of) c.columns.col c.args.columns.now c.columns.columns (omega (arith, n, t, e)) c.columns.invariant.owned
