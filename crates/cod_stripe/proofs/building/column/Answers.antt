use Rattle.std.proofs.Common.{◌≡◌, ◌∙◌, ◌∷◌, [], None, refl, sym, ap, subst, arith}
use Rattle.std.proofs.lemmas.Bool.{cond_above, cond_below}
use Rattle.cod_place.specs.Rooms.{AddUp, CameFrom}
use Rattle.cod_place.specs.Stores.{came_none_lem}
use Rattle.cod_types.specs.declared.call.NodeId.{NodeId}
use Rattle.cod_seg.specs.Seg.{Col}
use Rattle.cod_stripe.proofs.Filling.{new_column, untouched_column}
use Rattle.cod_stripe.proofs.Giving.{taken}
use Rattle.cod_stripe.proofs.building.column.Goals as goal
use Rattle.cod_stripe.proofs.building.column.Goals.{then-col-k, else-col-k}

pub returns-clause-new : goal.returns-clause-new
returns-clause-new g c = λ site frail shape told home sure.
    let region = c.in_ok-region.region in
    let plain : c.in-Ok.room.of ≡ None = (c.in-Ok.ensures.came [] (came_none_lem c.args.pools.now)).plain 0 c.in-Ok.room (omega arith) in
    let new = new_column site frail c.args.col c.args.node.0 c.column_size-bytes.result c.args.g c.in-Ok.room (g.R.Region.device region)
    ((g.H.Shelf.regions c.args.shelf.now).never_fail c.args.node) g.R.Region.tells shape home (ap (λ (n : NodeId). n.0) c.in-Ok.ensures.room.0)
    c.in-Ok.ensures.room.1 plain c.column_size-bytes.ensures.value c.in_ok-region.ensures.fresh (g.met.R.Region.telling region) told
    (g.met.R.Region.whole region) c.in_ok-region.ensures.zeros sure c.if-col-k.result in
    elim c.if-col-k.branch [
      | then-col-k w ↦
          (let below = (let t = w.if-col-k.true in let k = c.k.ensures.value in cond_below c.args.col c.args.g.k 0 c.args.g.reserve (omega (arith, t, k))) in
          new w.of_data.result 0 below w.result-is w.of_data.ensures)
      | else-col-k w ↦
          (let above = (let t = w.if-col-k.false in let k = c.k.ensures.value in
          cond_above c.args.col c.args.g.k 0 c.args.g.reserve w.reserve.result (omega (arith, t, k)) w.reserve.ensures) in
          new w.of_parity.result w.reserve.result above w.result-is w.of_parity.ensures)
    ]

pub returns-clause-rooms : goal.returns-clause-rooms
returns-clause-rooms g c = λ rest adds.
    let all = taken c.args.pools.now c.take.new.self c.in-Ok.room c.args.node.0 c.column_size-bytes.result rest (ap (λ (n : NodeId). n.0) c.in-Ok.ensures.room.0)
    c.in-Ok.ensures.room.1 c.take.ensures.sizes.1 c.in-Ok.ensures.free c.requires.node (c.in-Ok.ensures.told c.args.pools.now.free refl) adds in
    elim c.if-col-k.branch [
      | then-col-k w ↦ subst (λ (x : Col). AddUp c.take.new.self (x.room ∷ rest)) (sym (w.result-is ∙ w.of_data.ensures)) all
      | else-col-k w ↦ subst (λ (x : Col). AddUp c.take.new.self (x.room ∷ rest)) (sym (w.result-is ∙ w.of_parity.ensures)) all
    ]

pub returns-clause-came : goal.returns-clause-came
returns-clause-came g c = λ rooms came.
    let all = c.in-Ok.ensures.came rooms came in
    elim c.if-col-k.branch [
      | then-col-k w ↦ subst (λ (x : Col). CameFrom c.take.new.self (x.room ∷ rooms)) (sym (w.result-is ∙ w.of_data.ensures)) all
      | else-col-k w ↦ subst (λ (x : Col). CameFrom c.take.new.self (x.room ∷ rooms)) (sym (w.result-is ∙ w.of_parity.ensures)) all
    ]

pub returns-clause-untouched : goal.returns-clause-untouched
returns-clause-untouched g c =
    let region = c.in_ok-region.region in
    let d = g.R.Region.device region in
    let clean = untouched_column c.in-Ok.room d c.args.g in
    let never = (g.H.Shelf.regions c.args.shelf.now).never_fail c.args.node in
    elim c.if-col-k.branch [
      | then-col-k w ↦ clean 0 10000 d.content c.column_size-bytes.result never c.if-col-k.result w.of_data.result c.in_ok-region.ensures.fresh w.result-is w.of_data.ensures
      | else-col-k w ↦
          clean w.reserve.result 10000 d.content c.column_size-bytes.result never c.if-col-k.result w.of_parity.result c.in_ok-region.ensures.fresh w.result-is w.of_parity.ensures
    ]
