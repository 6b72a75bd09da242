use Rattle.std.proofs.Common.{◌≡◌, ◌∙◌, List, [], ◌++◌, refl, sym, ap, subst, Option}
use Rattle.std.specs.Prelude.{unwrap_or}
use Rattle.cod_types.specs.declared.call.Call.{Call as Asked}
use Rattle.cod_types.specs.declared.call.Call.TheVariants.{Merge}
use Rattle.cod_place.specs.Room.{Room}
use Rattle.cod_seg.proofs.Serving.{drain_where_live}
use Rattle.cod_segment.specs.Events.{Balances, call_in, rooms_of}
use Rattle.cod_segment.proofs.Balancing.{beside, then}
use Rattle.cod_drain.specs.Copies.{rooms_at}
use Rattle.cod_drain.proofs.Leading.{begins_at, drain_costs, drain_ends, drains_on, tries_lead}
use Rattle.cod_drain.proofs.draining.drain.Goals as goal

pub drained_node-node-requires : goal.drained_node-node-requires
drained_node-node-requires g c =
    let m = drain_where_live c.args.segment.now c.args.asker.caller.0 (call_in c.args.slip.now) c.requires.next in
    let is : call_in c.args.slip.now ≡ c.call.result.now = ap (λ (o : Option Asked). unwrap_or o Merge) c.call.ensures in
    (m.node, sym is ∙ m.asked)

pub plan_for-plan-requires-clause-col : goal.plan_for-plan-requires-clause-col
plan_for-plan-requires-clause-col g c =
    let b = begins_at c.args.segment.now c.column_off-col.result c.column_off-col.result c.args.asker.caller.0 c.args.asker.number c.drained_node-node.result c.args.slip.now c.call.result.now c.requires.sound
    c.requires.next c.requires.asked c.call.ensures c.drained_node-node.ensures c.column_off-col.ensures refl in
    b.served.below

pub take_reasons-reasons-requires : goal.take_reasons-reasons-requires
take_reasons-reasons-requires g c =
    let b = begins_at c.args.segment.now c.column_off-col.result c.plan_for-plan.result.col c.args.asker.caller.0 c.args.asker.number c.drained_node-node.result c.args.slip.now c.call.result.now c.requires.sound
    c.requires.next c.requires.asked c.call.ensures c.drained_node-node.ensures c.column_off-col.ensures c.plan_for-plan.ensures.col in
    rw b.listed refl

pub copy_away-tried-requires-clause-served : goal.copy_away-tried-requires-clause-served
copy_away-tried-requires-clause-served g c =
    let b = begins_at c.args.segment.now c.column_off-col.result c.plan_for-plan.result.col c.args.asker.caller.0 c.args.asker.number c.drained_node-node.result c.args.slip.now c.call.result.now c.requires.sound
    c.requires.next c.requires.asked c.call.ensures c.drained_node-node.ensures c.column_off-col.ensures c.plan_for-plan.ensures.col in
    b.served

pub finish-requires-clause-sound : goal.finish-requires-clause-sound
finish-requires-clause-sound g c =
    let b = begins_at c.args.segment.now c.column_off-col.result c.plan_for-plan.result.col c.args.asker.caller.0 c.args.asker.number c.drained_node-node.result c.args.slip.now c.call.result.now c.requires.sound
    c.requires.next c.requires.asked c.call.ensures c.drained_node-node.ensures c.column_off-col.ensures c.plan_for-plan.ensures.col in
    let both = tries_lead c.plan_for-plan.result (g.B.Board.kills c.copy_away-tried.new.board) c.copy_away-tried.new.reasons c.args.clock.now c.copy_away-tried.new.clock c.args.segment.now
    c.copy_away-tried.new.segment c.copy_away-tried.result c.requires.sound b.served c.copy_away-tried.ensures.tried in
    both.0.sound

pub finish-requires-clause-may : goal.finish-requires-clause-may
finish-requires-clause-may g c =
    let b = begins_at c.args.segment.now c.column_off-col.result c.plan_for-plan.result.col c.args.asker.caller.0 c.args.asker.number c.drained_node-node.result c.args.slip.now c.call.result.now c.requires.sound
    c.requires.next c.requires.asked c.call.ensures c.drained_node-node.ensures c.column_off-col.ensures c.plan_for-plan.ensures.col in
    let both = tries_lead c.plan_for-plan.result (g.B.Board.kills c.copy_away-tried.new.board) c.copy_away-tried.new.reasons c.args.clock.now c.copy_away-tried.new.clock c.args.segment.now
    c.copy_away-tried.new.segment c.copy_away-tried.result c.requires.sound b.served c.copy_away-tried.ensures.tried in
    (g.B.Board.kills c.copy_away-tried.new.board, both.1)

pub finish-requires-clause-slip : goal.finish-requires-clause-slip
finish-requires-clause-slip g c =
    let b = begins_at c.args.segment.now c.column_off-col.result c.plan_for-plan.result.col c.args.asker.caller.0 c.args.asker.number c.drained_node-node.result c.args.slip.now c.call.result.now c.requires.sound
    c.requires.next c.requires.asked c.call.ensures c.drained_node-node.ensures c.column_off-col.ensures c.plan_for-plan.ensures.col in
    let both = tries_lead c.plan_for-plan.result (g.B.Board.kills c.copy_away-tried.new.board) c.copy_away-tried.new.reasons c.args.clock.now c.copy_away-tried.new.clock c.args.segment.now
    c.copy_away-tried.new.segment c.copy_away-tried.result c.requires.sound b.served c.copy_away-tried.ensures.tried in
    drains_on c.plan_for-plan.result.col c.args.clock.now c.copy_away-tried.new.clock c.args.asker.caller.0 c.args.asker.number c.args.segment.now c.copy_away-tried.new.segment c.take_reasons-reasons.new.self
    both.0 (rw c.take_reasons-reasons.ensures.rest b.draining)

pub finish-requires-clause-came : goal.finish-requires-clause-came
finish-requires-clause-came g c =
    let b = begins_at c.args.segment.now c.column_off-col.result c.plan_for-plan.result.col c.args.asker.caller.0 c.args.asker.number c.drained_node-node.result c.args.slip.now c.call.result.now c.requires.sound
    c.requires.next c.requires.asked c.call.ensures c.drained_node-node.ensures c.column_off-col.ensures c.plan_for-plan.ensures.col in
    let both = tries_lead c.plan_for-plan.result (g.B.Board.kills c.copy_away-tried.new.board) c.copy_away-tried.new.reasons c.args.clock.now c.copy_away-tried.new.clock c.args.segment.now
    c.copy_away-tried.new.segment c.copy_away-tried.result c.requires.sound b.served c.copy_away-tried.ensures.tried in
    rw both.0.rooms (c.copy_away-tried.ensures.rooms (rooms_of c.args.segment.now) c.requires.pools.2)

pub returns-clause-sound : goal.returns-clause-sound
returns-clause-sound g c =
    let b = begins_at c.args.segment.now c.column_off-col.result c.plan_for-plan.result.col c.args.asker.caller.0 c.args.asker.number c.drained_node-node.result c.args.slip.now c.call.result.now c.requires.sound
    c.requires.next c.requires.asked c.call.ensures c.drained_node-node.ensures c.column_off-col.ensures c.plan_for-plan.ensures.col in
    let ends = drain_ends c.plan_for-plan.result (g.B.Board.kills c.args.board.now) (g.B.Board.kills c.copy_away-tried.new.board) c.copy_away-tried.new.reasons c.args.clock.now c.copy_away-tried.new.clock
    c.finish.new.clock c.finish.result c.args.segment.now c.copy_away-tried.new.segment c.finish.new.segment c.args.asker.caller.0 c.args.asker.number c.args.slip.now c.take_reasons-reasons.new.self
    c.finish.new.slip c.copy_away-tried.result c.requires.sound b c.take_reasons-reasons.ensures.rest c.copy_away-tried.ensures.tried c.copy_away-tried.ensures.board.1 c.finish.ensures.ends in
    ends.sound

pub returns-clause-makes : goal.returns-clause-makes
returns-clause-makes g c =
    let b = begins_at c.args.segment.now c.column_off-col.result c.plan_for-plan.result.col c.args.asker.caller.0 c.args.asker.number c.drained_node-node.result c.args.slip.now c.call.result.now c.requires.sound
    c.requires.next c.requires.asked c.call.ensures c.drained_node-node.ensures c.column_off-col.ensures c.plan_for-plan.ensures.col in
    let ends = drain_ends c.plan_for-plan.result (g.B.Board.kills c.args.board.now) (g.B.Board.kills c.copy_away-tried.new.board) c.copy_away-tried.new.reasons c.args.clock.now c.copy_away-tried.new.clock
    c.finish.new.clock c.finish.result c.args.segment.now c.copy_away-tried.new.segment c.finish.new.segment c.args.asker.caller.0 c.args.asker.number c.args.slip.now c.take_reasons-reasons.new.self
    c.finish.new.slip c.copy_away-tried.result c.requires.sound b c.take_reasons-reasons.ensures.rest c.copy_away-tried.ensures.tried c.copy_away-tried.ensures.board.1 c.finish.ensures.ends in
    ends.makes

pub returns-clause-exact : goal.returns-clause-exact
returns-clause-exact g c =
    let b = begins_at c.args.segment.now c.column_off-col.result c.plan_for-plan.result.col c.args.asker.caller.0 c.args.asker.number c.drained_node-node.result c.args.slip.now c.call.result.now c.requires.sound
    c.requires.next c.requires.asked c.call.ensures c.drained_node-node.ensures c.column_off-col.ensures c.plan_for-plan.ensures.col in
    let ends = drain_ends c.plan_for-plan.result (g.B.Board.kills c.args.board.now) (g.B.Board.kills c.copy_away-tried.new.board) c.copy_away-tried.new.reasons c.args.clock.now c.copy_away-tried.new.clock
    c.finish.new.clock c.finish.result c.args.segment.now c.copy_away-tried.new.segment c.finish.new.segment c.args.asker.caller.0 c.args.asker.number c.args.slip.now c.take_reasons-reasons.new.self
    c.finish.new.slip c.copy_away-tried.result c.requires.sound b c.take_reasons-reasons.ensures.rest c.copy_away-tried.ensures.tried c.copy_away-tried.ensures.board.1 c.finish.ensures.ends in
    ends.exact

pub returns-clause-outcome : goal.returns-clause-outcome
returns-clause-outcome g c =
    let b = begins_at c.args.segment.now c.column_off-col.result c.plan_for-plan.result.col c.args.asker.caller.0 c.args.asker.number c.drained_node-node.result c.args.slip.now c.call.result.now c.requires.sound
    c.requires.next c.requires.asked c.call.ensures c.drained_node-node.ensures c.column_off-col.ensures c.plan_for-plan.ensures.col in
    let ends = drain_ends c.plan_for-plan.result (g.B.Board.kills c.args.board.now) (g.B.Board.kills c.copy_away-tried.new.board) c.copy_away-tried.new.reasons c.args.clock.now c.copy_away-tried.new.clock
    c.finish.new.clock c.finish.result c.args.segment.now c.copy_away-tried.new.segment c.finish.new.segment c.args.asker.caller.0 c.args.asker.number c.args.slip.now c.take_reasons-reasons.new.self
    c.finish.new.slip c.copy_away-tried.result c.requires.sound b c.take_reasons-reasons.ensures.rest c.copy_away-tried.ensures.tried c.copy_away-tried.ensures.board.1 c.finish.ensures.ends in
    ends.outcome

pub returns-clause-costs : goal.returns-clause-costs
returns-clause-costs g c =
    let b = begins_at c.args.segment.now c.column_off-col.result c.plan_for-plan.result.col c.args.asker.caller.0 c.args.asker.number c.drained_node-node.result c.args.slip.now c.call.result.now c.requires.sound
    c.requires.next c.requires.asked c.call.ensures c.drained_node-node.ensures c.column_off-col.ensures c.plan_for-plan.ensures.col in
    let ends = drain_ends c.plan_for-plan.result (g.B.Board.kills c.args.board.now) (g.B.Board.kills c.copy_away-tried.new.board) c.copy_away-tried.new.reasons c.args.clock.now c.copy_away-tried.new.clock
    c.finish.new.clock c.finish.result c.args.segment.now c.copy_away-tried.new.segment c.finish.new.segment c.args.asker.caller.0 c.args.asker.number c.args.slip.now c.take_reasons-reasons.new.self
    c.finish.new.slip c.copy_away-tried.result c.requires.sound b c.take_reasons-reasons.ensures.rest c.copy_away-tried.ensures.tried c.copy_away-tried.ensures.board.1 c.finish.ensures.ends in
    λ none. drain_costs c.args.segment.now c.finish.new.segment c.args.asker.caller.0 (call_in c.args.slip.now) c.plan_for-plan.result.col b.draining.calm b.drains ends.others ends.own

pub returns-clause-rooms : goal.returns-clause-rooms
returns-clause-rooms g c = λ rest came.
    let b = begins_at c.args.segment.now c.column_off-col.result c.plan_for-plan.result.col c.args.asker.caller.0 c.args.asker.number c.drained_node-node.result c.args.slip.now c.call.result.now c.requires.sound
    c.requires.next c.requires.asked c.call.ensures c.drained_node-node.ensures c.column_off-col.ensures c.plan_for-plan.ensures.col in
    let both = tries_lead c.plan_for-plan.result (g.B.Board.kills c.copy_away-tried.new.board) c.copy_away-tried.new.reasons c.args.clock.now c.copy_away-tried.new.clock c.args.segment.now
    c.copy_away-tried.new.segment c.copy_away-tried.result c.requires.sound b.served c.copy_away-tried.ensures.tried in
    c.finish.ensures.came rest (rw both.0.rooms (c.copy_away-tried.ensures.rooms (rooms_of c.args.segment.now ++ rest) came))

pub returns-clause-balance : goal.returns-clause-balance
returns-clause-balance g c =
    let b = begins_at c.args.segment.now c.column_off-col.result c.plan_for-plan.result.col c.args.asker.caller.0 c.args.asker.number c.drained_node-node.result c.args.slip.now c.call.result.now c.requires.sound
    c.requires.next c.requires.asked c.call.ensures c.drained_node-node.ensures c.column_off-col.ensures c.plan_for-plan.ensures.col in
    let both = tries_lead c.plan_for-plan.result (g.B.Board.kills c.copy_away-tried.new.board) c.copy_away-tried.new.reasons c.args.clock.now c.copy_away-tried.new.clock c.args.segment.now
    c.copy_away-tried.new.segment c.copy_away-tried.result c.requires.sound b.served c.copy_away-tried.ensures.tried in
    let s = rooms_of c.args.segment.now in
    let first = beside (g.P.Pools.free c.args.pools.now) (g.P.Pools.free c.copy_away-tried.new.pools) [] [] (rooms_at c.copy_away-tried.result) s c.copy_away-tried.ensures.balance in
    then (g.P.Pools.free c.args.pools.now) (g.P.Pools.free c.copy_away-tried.new.pools) (g.P.Pools.free c.finish.new.pools) s (rooms_at c.copy_away-tried.result ++ s) (rooms_of c.finish.new.segment) first
    (subst (λ (l : List Room). Balances (g.P.Pools.free c.copy_away-tried.new.pools) (g.P.Pools.free c.finish.new.pools) (rooms_at c.copy_away-tried.result ++ l) (rooms_of c.finish.new.segment)) both.0.rooms
    c.finish.ensures.balance)

pub returns-clause-looked : goal.returns-clause-looked
returns-clause-looked g c = c.finish.ensures.looked c.args.pools.now c.copy_away-tried.ensures.looked
