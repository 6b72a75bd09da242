use Rattle.std.proofs.Common.{◌++◌, false, inr, List, refl, sym, ◌∙◌, subst}
use Rattle.std.proofs.lemmas.Bool.{both_ways}
use Rattle.cod_place.specs.Room.{Room}
use Rattle.cod_segment.specs.Events.{Balances, rooms_of}
use Rattle.cod_segment.proofs.Balancing.{stays}
use Rattle.cod_rounds.proofs.Passing.{fallen_rooms}
use Rattle.cod_rounds.proofs.Cutting.{cut_within, one_came, tick_balance, tick_came, tick_failed, tick_fits, ticked_turn}
use Rattle.cod_rounds.proofs.ticking.tick_column.Goals as goal

pub tick-requires-clause-room : goal.tick-requires-clause-room
tick-requires-clause-room g c = tick_fits _ c.args.segment.now c.args.col c.segment.view_is c.requires.turn (sym c.live.ensures ∙ c.if-not-live.false) c.requires.floor

pub returns-in-Err-clause-turned : goal.returns-in-Err-clause-turned
returns-in-Err-clause-turned g c =
    inr (inr (tick_failed _ c.args.segment.now c.mark_fault.new.self c.args.col c.tick.new.self c.args.clock.now c.mark_fault.new.clock c.in-Err.failed c.segment.view_is refl refl c.requires.turn
    c.requires.parity (sym c.live.ensures ∙ c.if-not-live.false) c.tick.ensures.one c.tick.ensures.same c.tick.ensures.kept c.tick.ensures.full c.tick.ensures.shorter c.in-Err.ensures.told.named
    c.in-Err.ensures.told.cause.failed (λ never. both_ways false refl (c.in-Err.ensures.sure never)) c.mark_fault.ensures.becomes c.mark_fault.ensures.clock c.mark_fault.ensures.follows))

pub returns-clause-turned : goal.returns-clause-turned
returns-clause-turned g c =
    ticked_turn _ c.args.segment.now c.args.col c.in-Ok.cut _ _ c.tick.new.self c.trim.new.self c.args.clock.now c.segment.view_is refl refl c.requires.turn c.requires.parity
    (sym c.live.ensures ∙ c.if-not-live.false) c.tick.ensures.one c.trim.ensures.room c.in-Ok.ensures.shrinks c.in-Ok.ensures.holds c.tick.ensures.same c.tick.ensures.kept c.tick.ensures.full
    c.in-Ok.ensures.told.cause.kept

pub returns-in-Err-clause-rooms : goal.returns-in-Err-clause-rooms
returns-in-Err-clause-rooms g c = λ rest came.
    let fell = tick_failed _ c.args.segment.now c.mark_fault.new.self c.args.col c.tick.new.self c.args.clock.now c.mark_fault.new.clock c.in-Err.failed c.segment.view_is refl refl c.requires.turn
    c.requires.parity (sym c.live.ensures ∙ c.if-not-live.false) c.tick.ensures.one c.tick.ensures.same c.tick.ensures.kept c.tick.ensures.full c.tick.ensures.shorter c.in-Err.ensures.told.named
    c.in-Err.ensures.told.cause.failed (λ never. both_ways false refl (c.in-Err.ensures.sure never)) c.mark_fault.ensures.becomes c.mark_fault.ensures.clock c.mark_fault.ensures.follows in
    subst (λ (l : List Room). g.P.Pools.Came c.args.pools.now (l ++ rest)) (sym (fallen_rooms c.args.col c.args.segment.now c.args.clock.now c.mark_fault.new.self c.mark_fault.new.clock fell)) came

pub returns-in-Err-clause-balance : goal.returns-in-Err-clause-balance
returns-in-Err-clause-balance g c =
    let fell = tick_failed _ c.args.segment.now c.mark_fault.new.self c.args.col c.tick.new.self c.args.clock.now c.mark_fault.new.clock c.in-Err.failed c.segment.view_is refl refl c.requires.turn
    c.requires.parity (sym c.live.ensures ∙ c.if-not-live.false) c.tick.ensures.one c.tick.ensures.same c.tick.ensures.kept c.tick.ensures.full c.tick.ensures.shorter c.in-Err.ensures.told.named
    c.in-Err.ensures.told.cause.failed (λ never. both_ways false refl (c.in-Err.ensures.sure never)) c.mark_fault.ensures.becomes c.mark_fault.ensures.clock c.mark_fault.ensures.follows in
    subst (λ (l : List Room). Balances (g.P.Pools.free c.args.pools.now) (g.P.Pools.free c.args.pools.now) (rooms_of c.args.segment.now) l)
    (sym (fallen_rooms c.args.col c.args.segment.now c.args.clock.now c.mark_fault.new.self c.mark_fault.new.clock fell)) (stays (g.P.Pools.free c.args.pools.now) (rooms_of c.args.segment.now))

pub trim-requires-clause-came : goal.trim-requires-clause-came
trim-requires-clause-came g c =
    let came = g.met.P.Pools.came_order c.args.pools.now in
    one_came (g.P.Pools.Came c.args.pools.now) came (g.met.P.Pools.came_front c.args.pools.now) _ c.args.segment.now c.args.col c.tick.new.self c.segment.view_is c.requires.turn c.tick.ensures.one
    c.requires.pools.1

pub returns-clause-rooms : goal.returns-clause-rooms
returns-clause-rooms g c =
    tick_came (g.P.Pools.Came c.args.pools.now) (g.P.Pools.Came c.trim.new.pools) (g.met.P.Pools.came_order c.args.pools.now) (g.met.P.Pools.came_order c.trim.new.pools) _ c.args.segment.now c.args.col
    c.in-Ok.cut c.tick.new.self c.trim.new.self c.segment.view_is c.requires.turn c.tick.ensures.one c.trim.ensures.room c.trim.ensures.came

pub returns-clause-balance : goal.returns-clause-balance
returns-clause-balance g c =
    tick_balance (g.P.Pools.free c.args.pools.now) (g.P.Pools.free c.trim.new.pools) _ c.args.segment.now c.args.col c.in-Ok.cut c.tick.new.self c.trim.new.self c.segment.view_is c.requires.turn
    c.tick.ensures.one c.trim.ensures.room (cut_within _ c.args.segment.now c.args.col c.in-Ok.cut c.tick.new.self c.segment.view_is c.requires.turn c.requires.parity (sym c.live.ensures ∙ c.if-not-live.false)
    c.tick.ensures.one c.in-Ok.ensures.shrinks.0) c.trim.ensures.free
