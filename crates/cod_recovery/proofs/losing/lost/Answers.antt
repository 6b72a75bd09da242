use Rattle.std.proofs.Common.{◌≡◌, length, true, refl, ap}
use Rattle.cod_claims.specs.Slips.{Paper}
use Rattle.cod_segment.specs.declared.asking.Outcome.TheVariants.{Answered}
use Rattle.cod_segment.specs.Events.{call_in, request_of}
use Rattle.cod_segment.proofs.Answering.{calm_setting, sound_after}
use Rattle.cod_recovery.proofs.Losses.{brings_none, lost_outcome, lost_seg, makes_lost}
use Rattle.cod_recovery.proofs.losing.lost.Goals as goal

pub returns-clause-makes : goal.returns-clause-makes
returns-clause-makes g c = λ w setting.
    let becomes : c.answer_lost.new.self ≡ lost_seg c.args.segment.now c.args.asker.caller c.args.asker.number c.answer_lost.new.clock (call_in c.args.slip.now) =
    rw (← c.segment.view_is, ← c.release.ensures, ← c.leave.ensures.left) c.answer_lost.ensures.becomes in
    rw c.answer_lost.ensures.outcome
    (makes_lost w c.args.segment.now c.answer_lost.new.self c.args.asker.caller c.args.asker.number c.answer_lost.new.clock c.args.clock.now c.args.slip.now (call_in c.args.slip.now)
    c.requires.asked c.requires.next (rw (← c.segment.view_is) c.answer_lost.ensures.clock) (rw (← c.segment.view_is) c.answer_lost.ensures.follows) becomes)

pub returns-clause-sound : goal.returns-clause-sound
returns-clause-sound g c =
    let becomes : c.answer_lost.new.self ≡ lost_seg c.args.segment.now c.args.asker.caller c.args.asker.number c.answer_lost.new.clock (call_in c.args.slip.now) =
    rw (← c.segment.view_is, ← c.release.ensures, ← c.leave.ensures.left) c.answer_lost.ensures.becomes in
    sound_after (calm_setting c.args.segment.now) (request_of c.args.asker.caller.0 c.args.asker.number (call_in c.args.slip.now)) c.args.clock.now c.answer_lost.new.clock true
    c.args.segment.now c.answer_lost.new.self c.requires.sound
    (makes_lost (calm_setting c.args.segment.now) c.args.segment.now c.answer_lost.new.self c.args.asker.caller c.args.asker.number c.answer_lost.new.clock c.args.clock.now c.args.slip.now
    (call_in c.args.slip.now) c.requires.asked c.requires.next (rw (← c.segment.view_is) c.answer_lost.ensures.clock) (rw (← c.segment.view_is) c.answer_lost.ensures.follows) becomes)

pub returns-clause-exact : goal.returns-clause-exact
returns-clause-exact g c = λ w.
    let becomes : c.answer_lost.new.self ≡ lost_seg c.args.segment.now c.args.asker.caller c.args.asker.number c.answer_lost.new.clock (call_in c.args.slip.now) =
    rw (← c.segment.view_is, ← c.release.ensures, ← c.leave.ensures.left) c.answer_lost.ensures.becomes in
    rw c.answer_lost.ensures.outcome
    (brings_none c.args.segment.now c.answer_lost.new.self c.args.asker.caller c.args.asker.number c.answer_lost.new.clock (call_in c.args.slip.now) becomes)

pub returns-clause-outcome : goal.returns-clause-outcome
returns-clause-outcome g c =
    let becomes : c.answer_lost.new.self ≡ lost_seg c.args.segment.now c.args.asker.caller c.args.asker.number c.answer_lost.new.clock (call_in c.args.slip.now) =
    rw (← c.segment.view_is, ← c.release.ensures, ← c.leave.ensures.left) c.answer_lost.ensures.becomes in
    let told : c.answer_lost.result ≡ Answered (length c.args.segment.now.log) c.answer_lost.new.clock = rw (← c.segment.view_is) c.answer_lost.ensures.outcome in
    rw told
    (lost_outcome c.args.segment.now c.answer_lost.new.self c.args.asker.caller c.args.asker.number c.answer_lost.new.clock (call_in c.args.slip.now) c.answer_lost.new.slip becomes
    (rw c.answer_lost.ensures.slip refl))

pub returns-clause-told : goal.returns-clause-told
returns-clause-told g c = ap (λ (x : Paper). x.reply) c.answer_lost.ensures.slip
