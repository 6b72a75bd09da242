use Rattle.std.proofs.Common.{◌≡◌, ◌<◌, ◌++◌, ◌∷◌, [], None, length, subst, arith}
use Rattle.cod_seg.specs.Seg.{Col}
use Rattle.cod_stripe.proofs.Rooming.{owned_all, owned_more, released_one}
use Rattle.cod_stripe.proofs.sharing.release_columns.Goals as goal

pub columns-preserved : goal.columns-preserved
columns-preserved g c =
    let cols = c.args.columns.now in
    let mid = c.columns.seat in
    let low : c.columns.col < length cols = let t = c.columns-test.true in let n = c.columns.invariant.count in omega (arith, t, n) in
    let same = c.columns.invariant.owned.left c.columns.col (omega arith) in
    let seat = subst (λ (x : Col). c.release.new.seat ≡ record mid { bytes = mid.bytes ++ (x.room.node.0, x.room.bytes) ∷ [] }) same c.release.ensures.seat in
    record {
      owned = owned_more None c.columns.col cols c.columns.columns c.release.new.self low c.columns.invariant.owned c.release.ensures.room;
      seat = released_one c.columns.col cols c.args.seat.now mid c.release.new.seat low c.columns.invariant.seat seat;
      count = c.columns.invariant.count;
    }

pub returns-clause-columns : goal.returns-clause-columns
returns-clause-columns g c =
    let n = c.columns.invariant.count in
    let t = c.columns-test.false in
    let e = c.columns.auto.col-end in
    owned_all None c.columns.col c.args.columns.now c.columns.columns (omega (arith, n, t, e)) c.columns.invariant.owned
