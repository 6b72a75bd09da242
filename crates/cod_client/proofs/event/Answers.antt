use Rattle.std.proofs.Common.{◌∙◌, subst, sym}
use Rattle.cod_claims.specs.Slips.{Paper}
use Rattle.cod_types.specs.declared.call.Reply.TheVariants.{Clear, Lost, Rebuilt, Whole}
use Rattle.cod_segment.specs.Events.{call_in, request_of}
use Rattle.cod_segment.specs.Looks.{HasLooked}
use Rattle.cod_segment.proofs.Looking.{looked_some}
use Rattle.cod_client.proofs.Replies.{asked_looked, common_looked}
use Rattle.cod_client.proofs.event.Goals as goal

pub returns-in-Refuse-clause-exact : goal.returns-in-Refuse-clause-exact
returns-in-Refuse-clause-exact g c = λ w known. rw c.in-Refuse.is (c.refuse.ensures.exact w known)

pub returns-in-Lost-clause-exact : goal.returns-in-Lost-clause-exact
returns-in-Lost-clause-exact g c = λ w known. rw c.in-Lost.is (c.lost.ensures.exact w known)

pub returns-in-Whole-clause-exact : goal.returns-in-Whole-clause-exact
returns-in-Whole-clause-exact g c = λ w known. rw c.in-Whole.is (c.whole.ensures.exact w known)

pub returns-in-Clear-clause-exact : goal.returns-in-Clear-clause-exact
returns-in-Clear-clause-exact g c = λ w known. rw c.in-Clear.is (c.clear.ensures.exact w known)

pub returns-in-Read-clause-exact : goal.returns-in-Read-clause-exact
returns-in-Read-clause-exact g c = λ w known. rw c.in-Read.is (c.read.ensures.exact w known)

pub returns-in-Put-clause-exact : goal.returns-in-Put-clause-exact
returns-in-Put-clause-exact g c = λ w known. rw c.in-Put.is (c.put.ensures.exact w known)

pub returns-in-Merge-clause-exact : goal.returns-in-Merge-clause-exact
returns-in-Merge-clause-exact g c = λ w known. rw c.in-Merge.is (c.merge.ensures.exact w known)

pub returns-in-Tick-clause-exact : goal.returns-in-Tick-clause-exact
returns-in-Tick-clause-exact g c = λ w known. rw c.in-Tick.is (c.tick.ensures.exact w known)

pub returns-in-Upgrade-clause-exact : goal.returns-in-Upgrade-clause-exact
returns-in-Upgrade-clause-exact g c = λ w known. rw c.in-Upgrade.is (c.upgrade.ensures.exact w known)

pub returns-in-Begin-clause-exact : goal.returns-in-Begin-clause-exact
returns-in-Begin-clause-exact g c = λ w known. rw c.in-Begin.is (c.begin.ensures.exact w known)

pub returns-in-Data-clause-exact : goal.returns-in-Data-clause-exact
returns-in-Data-clause-exact g c = λ w known. rw c.in-Data.is (c.data_step.ensures.exact w known)

pub returns-in-Parity-clause-exact : goal.returns-in-Parity-clause-exact
returns-in-Parity-clause-exact g c = λ w known. rw c.in-Parity.is (c.parity_step.ensures.exact w known)

pub returns-in-Commit-clause-exact : goal.returns-in-Commit-clause-exact
returns-in-Commit-clause-exact g c = λ w known. rw c.in-Commit.is (c.commit.ensures.exact w known)

pub returns-in-RebuildStart-clause-exact : goal.returns-in-RebuildStart-clause-exact
returns-in-RebuildStart-clause-exact g c = λ w known. rw c.in-RebuildStart.is (c.rebuild_start.ensures.exact w known)

pub returns-in-RebuildPiece-clause-exact : goal.returns-in-RebuildPiece-clause-exact
returns-in-RebuildPiece-clause-exact g c = λ w known. rw c.in-RebuildPiece.is (c.rebuild_piece.ensures.exact w known)

pub returns-in-RebuildEnd-clause-exact : goal.returns-in-RebuildEnd-clause-exact
returns-in-RebuildEnd-clause-exact g c = λ w known. rw c.in-RebuildEnd.is (c.rebuild_end.ensures.exact w known)

pub returns-in-Drain-clause-exact : goal.returns-in-Drain-clause-exact
returns-in-Drain-clause-exact g c = λ w known. rw c.in-Drain.is (c.drain.ensures.exact w known)

pub returns-in-Refuse-clause-looked : goal.returns-in-Refuse-clause-looked
returns-in-Refuse-clause-looked g c = λ sound.
    common_looked (g.P.Pools.Seen c.args.around.now.pools.now c.refuse.new.around.pools.now) c.args.stripe.now _ c.refuse.result
    (request_of c.args.around.now.caller.0 c.args.around.now.number (call_in c.args.slip.now)) c.refuse.new.around.clock.now c.refuse.new.self c.refuse.new.slip
    (c.requires.next ∙ c.in-Refuse.is) tt c.refuse.ensures.outcome sound

pub returns-in-Read-clause-looked : goal.returns-in-Read-clause-looked
returns-in-Read-clause-looked g c = λ sound.
    common_looked (g.P.Pools.Seen c.args.around.now.pools.now c.read.new.around.pools.now) c.args.stripe.now _ c.read.result
    (request_of c.args.around.now.caller.0 c.args.around.now.number (call_in c.args.slip.now)) c.read.new.around.clock.now c.read.new.self c.read.new.slip
    (c.requires.next ∙ c.in-Read.is) tt c.read.ensures.outcome sound

pub returns-in-Put-clause-looked : goal.returns-in-Put-clause-looked
returns-in-Put-clause-looked g c = λ sound.
    common_looked (g.P.Pools.Seen c.args.around.now.pools.now c.put.new.around.pools.now) c.args.stripe.now _ c.put.result
    (request_of c.args.around.now.caller.0 c.args.around.now.number (call_in c.args.slip.now)) c.put.new.around.clock.now c.put.new.self c.put.new.slip
    (c.requires.next ∙ c.in-Put.is) tt c.put.ensures.outcome sound

pub returns-in-Merge-clause-looked : goal.returns-in-Merge-clause-looked
returns-in-Merge-clause-looked g c = λ sound.
    common_looked (g.P.Pools.Seen c.args.around.now.pools.now c.merge.new.around.pools.now) c.args.stripe.now _ c.merge.result
    (request_of c.args.around.now.caller.0 c.args.around.now.number (call_in c.args.slip.now)) c.merge.new.around.clock.now c.merge.new.self c.merge.new.slip
    (c.requires.next ∙ c.in-Merge.is) tt c.merge.ensures.outcome sound

pub returns-in-Tick-clause-looked : goal.returns-in-Tick-clause-looked
returns-in-Tick-clause-looked g c = λ sound.
    common_looked (g.P.Pools.Seen c.args.around.now.pools.now c.tick.new.around.pools.now) c.args.stripe.now _ c.tick.result
    (request_of c.args.around.now.caller.0 c.args.around.now.number (call_in c.args.slip.now)) c.tick.new.around.clock.now c.tick.new.self c.tick.new.slip
    (c.requires.next ∙ c.in-Tick.is) tt c.tick.ensures.outcome sound

pub returns-in-Upgrade-clause-looked : goal.returns-in-Upgrade-clause-looked
returns-in-Upgrade-clause-looked g c = λ sound.
    common_looked (g.P.Pools.Seen c.args.around.now.pools.now c.upgrade.new.around.pools.now) c.args.stripe.now _ c.upgrade.result
    (request_of c.args.around.now.caller.0 c.args.around.now.number (call_in c.args.slip.now)) c.upgrade.new.around.clock.now c.upgrade.new.self c.upgrade.new.slip
    (c.requires.next ∙ c.in-Upgrade.is) tt c.upgrade.ensures.outcome sound

pub returns-in-Begin-clause-looked : goal.returns-in-Begin-clause-looked
returns-in-Begin-clause-looked g c = λ sound.
    common_looked (g.P.Pools.Seen c.args.around.now.pools.now c.begin.new.around.pools.now) c.args.stripe.now _ c.begin.result
    (request_of c.args.around.now.caller.0 c.args.around.now.number (call_in c.args.slip.now)) c.begin.new.around.clock.now c.begin.new.self c.begin.new.slip
    (c.requires.next ∙ c.in-Begin.is) tt c.begin.ensures.outcome sound

pub returns-in-Data-clause-looked : goal.returns-in-Data-clause-looked
returns-in-Data-clause-looked g c = λ sound.
    common_looked (g.P.Pools.Seen c.args.around.now.pools.now c.data_step.new.around.pools.now) c.args.stripe.now _ c.data_step.result
    (request_of c.args.around.now.caller.0 c.args.around.now.number (call_in c.args.slip.now)) c.data_step.new.around.clock.now c.data_step.new.self c.data_step.new.slip
    (c.requires.next ∙ c.in-Data.is) tt c.data_step.ensures.outcome sound

pub returns-in-Parity-clause-looked : goal.returns-in-Parity-clause-looked
returns-in-Parity-clause-looked g c = λ sound.
    common_looked (g.P.Pools.Seen c.args.around.now.pools.now c.parity_step.new.around.pools.now) c.args.stripe.now _ c.parity_step.result
    (request_of c.args.around.now.caller.0 c.args.around.now.number (call_in c.args.slip.now)) c.parity_step.new.around.clock.now c.parity_step.new.self c.parity_step.new.slip
    (c.requires.next ∙ c.in-Parity.is) tt c.parity_step.ensures.outcome sound

pub returns-in-Commit-clause-looked : goal.returns-in-Commit-clause-looked
returns-in-Commit-clause-looked g c = λ sound.
    common_looked (g.P.Pools.Seen c.args.around.now.pools.now c.commit.new.around.pools.now) c.args.stripe.now _ c.commit.result
    (request_of c.args.around.now.caller.0 c.args.around.now.number (call_in c.args.slip.now)) c.commit.new.around.clock.now c.commit.new.self c.commit.new.slip
    (c.requires.next ∙ c.in-Commit.is) tt c.commit.ensures.outcome sound

pub returns-in-Lost-clause-looked : goal.returns-in-Lost-clause-looked
returns-in-Lost-clause-looked g c = λ sound.
    looked_some (g.P.Pools.Seen c.args.around.now.pools.now c.lost.new.around.pools.now) c.lost.new.slip.reply Lost c.lost.ensures.told tt

pub returns-in-Whole-clause-looked : goal.returns-in-Whole-clause-looked
returns-in-Whole-clause-looked g c = λ sound.
    looked_some (g.P.Pools.Seen c.args.around.now.pools.now c.whole.new.around.pools.now) c.whole.new.slip.reply Whole c.whole.ensures.told tt

pub returns-in-Clear-clause-looked : goal.returns-in-Clear-clause-looked
returns-in-Clear-clause-looked g c = λ sound.
    looked_some (g.P.Pools.Seen c.args.around.now.pools.now c.clear.new.around.pools.now) c.clear.new.slip.reply Clear c.clear.ensures.told tt

pub returns-in-RebuildStart-clause-looked : goal.returns-in-RebuildStart-clause-looked
returns-in-RebuildStart-clause-looked g c = λ sound. c.rebuild_start.ensures.looked

pub returns-in-RebuildPiece-clause-looked : goal.returns-in-RebuildPiece-clause-looked
returns-in-RebuildPiece-clause-looked g c = λ sound.
    subst (λ (p : Paper). HasLooked (g.P.Pools.Seen c.args.around.now.pools.now c.rebuild_piece.new.around.pools.now) p.reply) (sym c.rebuild_piece.ensures.slip)
    (asked_looked (g.P.Pools.Seen c.args.around.now.pools.now c.rebuild_piece.new.around.pools.now) c.args.stripe.now c.args.around.now.caller.0 c.args.around.now.number c.args.slip.now
    (call_in c.args.slip.now) c.requires.asked)

pub returns-in-RebuildEnd-clause-looked : goal.returns-in-RebuildEnd-clause-looked
returns-in-RebuildEnd-clause-looked g c = λ sound.
    let e = c.rebuild_end.ensures.told in
    looked_some (g.P.Pools.Seen c.args.around.now.pools.now c.rebuild_end.new.around.pools.now) c.rebuild_end.new.slip.reply (Rebuilt e.0.col e.1.room.node) e.4 tt

pub returns-in-Drain-clause-looked : goal.returns-in-Drain-clause-looked
returns-in-Drain-clause-looked g c = λ sound. c.drain.ensures.looked
