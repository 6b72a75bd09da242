use Rattle.std.proofs.Common.{ap, inl, inr}
use Rattle.std.specs.Prelude.{is_some}
use Rattle.cod_seg.specs.declared.next.Step.TheVariants as step
use Rattle.cod_types.specs.Faults.{bump}
use Rattle.cod_repair.specs.Columns.{state_at}
use Rattle.cod_segment.specs.Events.{call_in}
use Rattle.cod_update.proofs.Falling.{HasFallen, has_fallen, marked, same_follows, still_inside, still_up}
use Rattle.cod_update.proofs.Moving.{Moves, moves_down}
use Rattle.cod_update.proofs.OnData.{applied_is, due, moves_on, no_reserve, part_inside}
use Rattle.cod_update.proofs.applying.data_step.Given.{Over}
use Rattle.cod_update.proofs.applying.data_step.Goals as goal

pub apply-requires-clause-col : goal.apply-requires-clause-col
apply-requires-clause-col g c =
    let is = due c.args.segment.now c.args.asker.caller.0 c.args.asker.number c.args.block c.args._slip.now (call_in c.args._slip.now) c.requires.sound c.requires.asked c.requires.next in
    is.inside

pub apply-requires-clause-low : goal.apply-requires-clause-low
apply-requires-clause-low g c =
    let is = due c.args.segment.now c.args.asker.caller.0 c.args.asker.number c.args.block c.args._slip.now (call_in c.args._slip.now) c.requires.sound c.requires.asked c.requires.next in
    is.due.among

pub apply-requires-clause-claim : goal.apply-requires-clause-claim
apply-requires-clause-claim g c =
    let is = due c.args.segment.now c.args.asker.caller.0 c.args.asker.number c.args.block c.args._slip.now (call_in c.args._slip.now) c.requires.sound c.requires.asked c.requires.next in
    ap is_some is.own.there

pub apply-requires-clause-data : goal.apply-requires-clause-data
apply-requires-clause-data g c =
    let is = due c.args.segment.now c.args.asker.caller.0 c.args.asker.number c.args.block c.args._slip.now (call_in c.args._slip.now) c.requires.sound c.requires.asked c.requires.next in
    no_reserve c.args.segment.now c.args.block c.requires.sound is.due.among

pub apply-requires-clause-inside : goal.apply-requires-clause-inside
apply-requires-clause-inside g c =
    let is = due c.args.segment.now c.args.asker.caller.0 c.args.asker.number c.args.block c.args._slip.now (call_in c.args._slip.now) c.requires.sound c.requires.asked c.requires.next in
    λ claim there. part_inside c.args.segment.now c.args.block claim c.requires.sound is.due.among there

pub mark_fault-requires-clause-col : goal.mark_fault-requires-clause-col
mark_fault-requires-clause-col g c =
    let is = due c.args.segment.now c.args.asker.caller.0 c.args.asker.number c.args.block c.args._slip.now (call_in c.args._slip.now) c.requires.sound c.requires.asked c.requires.next in
    still_inside c.args.segment.now c.apply.new.segment c.args.block c.in-Err.failed.col is.inside c.in-Err.ensures.failed c.in-Err.ensures.named.0

pub mark_fault-requires-clause-up : goal.mark_fault-requires-clause-up
mark_fault-requires-clause-up g c =
    let is = due c.args.segment.now c.args.asker.caller.0 c.args.asker.number c.args.block c.args._slip.now (call_in c.args._slip.now) c.requires.sound c.requires.asked c.requires.next in
    still_up c.args.segment.now c.apply.new.segment c.args.block c.in-Err.failed.col is.inside c.in-Err.ensures.failed is.due.up c.in-Err.ensures.named.0

-- the column went down
fell : (g : Over) (c : goal.After-mark_fault g) → HasFallen c.args.segment.now c.apply.new.segment c.mark_fault.new.self c.args.block c.mark_fault.new.clock
fell g c =
    let is = due c.args.segment.now c.args.asker.caller.0 c.args.asker.number c.args.block c.args._slip.now (call_in c.args._slip.now) c.requires.sound c.requires.asked c.requires.next in
    has_fallen c.apply.result c.in-Err.failed c.args.segment.now c.apply.new.segment c.mark_fault.new.self c.args.block c.mark_fault.new.clock is.below is.inside is.due.up c.in-Err.ensures.failed c.in-Err.is
    c.apply.ensures.sure c.in-Err.ensures.named c.mark_fault.ensures.becomes

down : (g : Over) (c : goal.After-mark_fault g)
    → Moves c.args.segment.now c.mark_fault.new.self c.args.asker.caller.0 c.args.asker.number c.args.clock.now c.mark_fault.new.clock c.args._slip.now (call_in c.args._slip.now) (step.Data c.args.block)
down g c =
    let is = due c.args.segment.now c.args.asker.caller.0 c.args.asker.number c.args.block c.args._slip.now (call_in c.args._slip.now) c.requires.sound c.requires.asked c.requires.next in
    moves_down c.args.segment.now c.apply.new.segment c.mark_fault.new.self c.args.block c.args.asker.caller.0 c.args.asker.number c.args.clock.now c.mark_fault.new.clock c.args._slip.now (call_in c.args._slip.now)
    (step.Data c.args.block) c.requires.sound (fell g c) c.mark_fault.ensures.clock c.mark_fault.ensures.follows is.begun.opened is.begun.begun

pub returns-in-Err-clause-sound : goal.returns-in-Err-clause-sound
returns-in-Err-clause-sound g c = (down g c).sound

pub returns-in-Err-clause-makes : goal.returns-in-Err-clause-makes
returns-in-Err-clause-makes g c = (down g c).makes

pub returns-in-Err-clause-exact : goal.returns-in-Err-clause-exact
returns-in-Err-clause-exact g c = λ w.
    let h = fell g c in
    inr (marked c.args.segment.now c.mark_fault.new.self c.args.block c.mark_fault.new.clock h.f.state c.requires.sound h.is (same_follows c.args.segment.now c.apply.new.segment c.args.block c.mark_fault.new.clock h.f c.mark_fault.ensures.follows) h.becomes)

pub returns-in-Err-clause-outcome : goal.returns-in-Err-clause-outcome
returns-in-Err-clause-outcome g c = (down g c).outcome

pub returns-in-Err-clause-costs : goal.returns-in-Err-clause-costs
returns-in-Err-clause-costs g c = (down g c).costs

pub returns-in-Err-clause-rooms : goal.returns-in-Err-clause-rooms
returns-in-Err-clause-rooms g c = (down g c).rooms

-- the column has the update
on : (g : Over) (c : goal.In_default g)
    → Moves c.args.segment.now c.apply.new.segment c.args.asker.caller.0 c.args.asker.number c.args.clock.now c.args.clock.now c.args._slip.now (call_in c.args._slip.now) (step.Data c.args.block)
on g c =
    let is = due c.args.segment.now c.args.asker.caller.0 c.args.asker.number c.args.block c.args._slip.now (call_in c.args._slip.now) c.requires.sound c.requires.asked c.requires.next in
    moves_on c.args.segment.now c.apply.new.segment c.args.asker.caller.0 c.args.asker.number c.args.block c.args.clock.now c.args._slip.now (call_in c.args._slip.now) c.requires.sound is
    (c.in_default.ensures.applied is.own.claim is.own.there)

pub returns-in_default-clause-sound : goal.returns-in_default-clause-sound
returns-in_default-clause-sound g c = (on g c).sound

pub returns-in_default-clause-makes : goal.returns-in_default-clause-makes
returns-in_default-clause-makes g c = (on g c).makes

pub returns-in_default-clause-exact : goal.returns-in_default-clause-exact
returns-in_default-clause-exact g c = λ w.
    let is = due c.args.segment.now c.args.asker.caller.0 c.args.asker.number c.args.block c.args._slip.now (call_in c.args._slip.now) c.requires.sound c.requires.asked c.requires.next in
    inl (applied_is c.args.segment.now c.apply.new.segment c.args.asker.caller.0 c.args.asker.number c.args.block (bump (state_at c.args.segment.now.cols c.args.block).device.writes) c.args._slip.now
    (call_in c.args._slip.now) is (c.in_default.ensures.applied is.own.claim is.own.there))

pub returns-in_default-clause-outcome : goal.returns-in_default-clause-outcome
returns-in_default-clause-outcome g c = (on g c).outcome

pub returns-in_default-clause-costs : goal.returns-in_default-clause-costs
returns-in_default-clause-costs g c = (on g c).costs

pub returns-in_default-clause-rooms : goal.returns-in_default-clause-rooms
returns-in_default-clause-rooms g c = (on g c).rooms
