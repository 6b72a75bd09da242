use Rattle.std.proofs.Common.{inl, inr}
use Rattle.cod_seg.specs.declared.next.Step.TheVariants as step
use Rattle.cod_segment.specs.Events.{call_in}
use Rattle.cod_update.proofs.Falling.{HasFallen, has_fallen, marked, same_follows, still_inside, still_up}
use Rattle.cod_update.proofs.Moving.{Moves, moves_down}
use Rattle.cod_update.proofs.OnParity.{due, moves_on}
use Rattle.cod_update.proofs.noting.parity_step.Given.{Over}
use Rattle.cod_update.proofs.noting.parity_step.Goals as goal

pub note-requires-clause-lacks : goal.note-requires-clause-lacks
note-requires-clause-lacks g c =
    let is = due c.args.segment.now c.args.asker.caller.0 c.args.asker.number c.args.block c.args.col c.args._slip.now (call_in c.args._slip.now) c.requires.sound c.requires.asked c.requires.room c.requires.next in
    is.lacks

pub mark_fault-requires-clause-col : goal.mark_fault-requires-clause-col
mark_fault-requires-clause-col g c =
    let is = due c.args.segment.now c.args.asker.caller.0 c.args.asker.number c.args.block c.args.col c.args._slip.now (call_in c.args._slip.now) c.requires.sound c.requires.asked c.requires.room c.requires.next in
    still_inside c.args.segment.now c.note.new.segment c.args.col c.in-Err.failed.col is.inside c.in-Err.ensures.failed c.in-Err.ensures.named.0

pub mark_fault-requires-clause-up : goal.mark_fault-requires-clause-up
mark_fault-requires-clause-up g c =
    let is = due c.args.segment.now c.args.asker.caller.0 c.args.asker.number c.args.block c.args.col c.args._slip.now (call_in c.args._slip.now) c.requires.sound c.requires.asked c.requires.room c.requires.next in
    still_up c.args.segment.now c.note.new.segment c.args.col c.in-Err.failed.col is.inside c.in-Err.ensures.failed is.due.up c.in-Err.ensures.named.0

-- the column went down
fell : (g : Over) (c : goal.After-mark_fault g) → HasFallen c.args.segment.now c.note.new.segment c.mark_fault.new.self c.args.col c.mark_fault.new.clock
fell g c =
    let is = due c.args.segment.now c.args.asker.caller.0 c.args.asker.number c.args.block c.args.col c.args._slip.now (call_in c.args._slip.now) c.requires.sound c.requires.asked c.requires.room c.requires.next in
    has_fallen c.note.result c.in-Err.failed c.args.segment.now c.note.new.segment c.mark_fault.new.self c.args.col c.mark_fault.new.clock is.due.below is.inside is.due.up c.in-Err.ensures.failed c.in-Err.is
    c.note.ensures.sure c.in-Err.ensures.named c.mark_fault.ensures.becomes

down : (g : Over) (c : goal.After-mark_fault g)
    → Moves c.args.segment.now c.mark_fault.new.self c.args.asker.caller.0 c.args.asker.number c.args.clock.now c.mark_fault.new.clock c.args._slip.now (call_in c.args._slip.now) (step.Parity c.args.block c.args.col)
down g c =
    let is = due c.args.segment.now c.args.asker.caller.0 c.args.asker.number c.args.block c.args.col c.args._slip.now (call_in c.args._slip.now) c.requires.sound c.requires.asked c.requires.room c.requires.next in
    moves_down c.args.segment.now c.note.new.segment c.mark_fault.new.self c.args.col c.args.asker.caller.0 c.args.asker.number c.args.clock.now c.mark_fault.new.clock c.args._slip.now (call_in c.args._slip.now)
    (step.Parity c.args.block c.args.col) c.requires.sound (fell g c) c.mark_fault.ensures.clock c.mark_fault.ensures.follows is.begun.opened is.begun.begun

pub returns-in-Err-clause-sound : goal.returns-in-Err-clause-sound
returns-in-Err-clause-sound g c = (down g c).sound

pub returns-in-Err-clause-makes : goal.returns-in-Err-clause-makes
returns-in-Err-clause-makes g c = (down g c).makes

pub returns-in-Err-clause-exact : goal.returns-in-Err-clause-exact
returns-in-Err-clause-exact g c = λ w.
    let h = fell g c in
    inr (marked c.args.segment.now c.mark_fault.new.self c.args.col c.mark_fault.new.clock h.f.state c.requires.sound h.is (same_follows c.args.segment.now c.note.new.segment c.args.col c.mark_fault.new.clock h.f c.mark_fault.ensures.follows) h.becomes)

pub returns-in-Err-clause-outcome : goal.returns-in-Err-clause-outcome
returns-in-Err-clause-outcome g c = (down g c).outcome

pub returns-in-Err-clause-costs : goal.returns-in-Err-clause-costs
returns-in-Err-clause-costs g c = (down g c).costs

pub returns-in-Err-clause-rooms : goal.returns-in-Err-clause-rooms
returns-in-Err-clause-rooms g c = (down g c).rooms

-- the column has the update
on : (g : Over) (c : goal.In_default g)
    → Moves c.args.segment.now c.note.new.segment c.args.asker.caller.0 c.args.asker.number c.args.clock.now c.args.clock.now c.args._slip.now (call_in c.args._slip.now) (step.Parity c.args.block c.args.col)
on g c =
    let is = due c.args.segment.now c.args.asker.caller.0 c.args.asker.number c.args.block c.args.col c.args._slip.now (call_in c.args._slip.now) c.requires.sound c.requires.asked c.requires.room c.requires.next in
    moves_on c.args.segment.now c.note.new.segment c.args.asker.caller.0 c.args.asker.number c.args.block c.args.col c.args.clock.now c.args._slip.now (call_in c.args._slip.now) is
    c.in_default.ensures.noted

pub returns-in_default-clause-sound : goal.returns-in_default-clause-sound
returns-in_default-clause-sound g c = (on g c).sound

pub returns-in_default-clause-makes : goal.returns-in_default-clause-makes
returns-in_default-clause-makes g c = (on g c).makes

pub returns-in_default-clause-exact : goal.returns-in_default-clause-exact
returns-in_default-clause-exact g c = λ w. inl c.in_default.ensures.noted.notes

pub returns-in_default-clause-outcome : goal.returns-in_default-clause-outcome
returns-in_default-clause-outcome g c = (on g c).outcome

pub returns-in_default-clause-costs : goal.returns-in_default-clause-costs
returns-in_default-clause-costs g c = (on g c).costs

pub returns-in_default-clause-rooms : goal.returns-in_default-clause-rooms
returns-in_default-clause-rooms g c = (on g c).rooms
