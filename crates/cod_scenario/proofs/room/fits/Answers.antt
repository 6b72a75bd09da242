use Rattle.std.proofs.Common.{◌≡◌, ◌+◌, sym, arith}
use Rattle.cod_script.specs.Room.{taken_on}
use Rattle.cod_scenario.specs.Lines.{shape_of}
use Rattle.cod_script.proofs.RoomSums.{taken_on_more, no_room, fits_more, all_fit}
use Rattle.cod_scenario.proofs.room.fits.Goals as goal

pub returns-then-from-total : goal.returns-then-from-total
returns-then-from-total c =
    let t = taken_on_more (shape_of c.args.h.now) c.args.h.now.nodes c.args.s c.loop-x.x in
    let p = c.requires.so_far c.loop-x.x c.loop-x-test.true in
    sym (no_room (shape_of c.args.h.now) c.args.h.now.nodes c.args.h.now.capacity (c.args.s + 1) c.loop-x.x c.loop-x-test.true
    (omega (arith, t, p, c.saturating_add-total.ensures, c.taken_by.ensures.value, c.if-from-total.true, c.from.ensures)))

pub loop-x-preserved : goal.loop-x-preserved
loop-x-preserved c =
    let h = c.args.h.now in
    let t = taken_on_more (shape_of h) h.nodes c.args.s c.loop-x.x in
    let p = c.requires.so_far c.loop-x.x c.loop-x-test.true in
    let total : c.saturating_add-total.result ≡ taken_on (shape_of h) h.nodes (c.args.s + 1) c.loop-x.x =
    omega (arith, t, p, c.saturating_add-total.ensures, c.taken_by.ensures.value, c.if-from-total.false, c.from.ensures, c.from.type_inv) in
    fits_more (shape_of h) h.nodes h.capacity (c.args.s + 1) c.loop-x.x (omega (arith, total, c.if-from-total.false, c.from.ensures)) c.loop-x.invariant

pub returns : goal.returns
returns c = sym (all_fit (shape_of c.args.h.now) c.args.h.now.nodes c.args.h.now.capacity (c.args.s + 1) c.loop-x.x (omega arith) c.loop-x.invariant)
