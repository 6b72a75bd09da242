use Rattle.std.proofs.Common.{◌≡◌, ◌+◌, ◌<◌, length, ◌∙◌, arith, rules}
use Rattle.cod_script.specs.Room.{taken_on}
use Rattle.cod_scenario.specs.Lines.{shape_of}
use Rattle.cod_script.proofs.RoomSums.{taken_on_more, room_at, set_done, set_left}
use Rattle.cod_scenario.proofs.room.take_room.Goals as goal

pub loop-x-preserved : goal.loop-x-preserved
loop-x-preserved c =
    let h = c.args.h.now in
    let t = taken_on_more (shape_of h) h.nodes c.args.s c.loop-x.x in
    let p = c.loop-x.invariant.left c.loop-x.x (omega arith) c.loop-x-test.true in
    let r = room_at (shape_of h) h.nodes h.capacity (c.args.s + 1) c.loop-x.x c.loop-x-test.true c.requires.room in
    let total : c.saturating_add.result ≡ taken_on (shape_of h) h.nodes (c.args.s + 1) c.loop-x.x = omega (arith, t, p, r, c.saturating_add.ensures, c.taken_by.ensures.value) in
    let inside : c.loop-x.x < length c.loop-x.taken = omega (arith, c.loop-x.invariant.same, c.requires.nodes, c.loop-x-test.true) in
    record {
      done = λ y lt. set_done c.loop-x.taken c.loop-x.x c.saturating_add.result y (taken_on (shape_of h) h.nodes (c.args.s + 1)) inside total c.loop-x.invariant.done lt;
      left = λ y above below. set_left c.loop-x.taken c.loop-x.x c.saturating_add.result y above ∙ c.loop-x.invariant.left y (omega (arith, above)) below;
      same = search rules;
    }

pub returns : goal.returns
returns c = record { takes = λ y lt. c.loop-x.invariant.done y (omega (arith, lt)); len = c.loop-x.invariant.same }
