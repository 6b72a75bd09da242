use Rattle.std.proofs.Common.{◌≡◌, List, Option, true, false, refl, sym, ap, ◌∙◌, subst}
use Rattle.std.specs.Prelude.{unwrap_or}
use Rattle.std.proofs.lemmas.Bool.{both_ways}
use Rattle.cod_types.specs.declared.call.Call.{Call as Asked}
use Rattle.cod_types.specs.declared.call.Call.TheVariants.{Merge, Put}
use Rattle.cod_types.specs.declared.call.Reply.TheVariants.{Done, Lost}
use Rattle.cod_chronicle.specs.Said.{is_over}
use Rattle.cod_place.specs.Room.{Room}
use Rattle.cod_segment.specs.Events.{Balances, call_in, request_of, rooms_of}
use Rattle.cod_segment.proofs.Answering.{outcome, sound_after}
use Rattle.cod_rounds.proofs.Passing.{own_is, own_setting}
use Rattle.cod_rounds.proofs.Replacing.{costs_put, given_newest, given_open, given_over, given_rooms, goal_newest, goal_open, makes_done, makes_lost, none_lost, to_put}
use Rattle.cod_rounds.proofs.putting.put.Goals as goal

pub put_bytes-bytes-requires : goal.put_bytes-bytes-requires
put_bytes-bytes-requires g c =
    let is = to_put c.args.segment.now c.args.asker.caller.0 (call_in c.args.slip.now) c.requires.sound c.requires.next in
    record { put = (is.bytes, sym (ap (λ (o : Option Asked). unwrap_or o Merge) c.call.ensures) ∙ is.asked) }

pub answer_lost-requires-clause-newest : goal.answer_lost-requires-clause-newest
answer_lost-requires-clause-newest g c =
    given_newest c.put_bytes-bytes.result.now c.args.segment.now.site.shape.n c.args.segment.now c.args.clock.now c.put_columns.new.segment c.put_columns.new.clock c.args.asker.caller.0 c.args.asker.number
    c.put_columns.ensures.given c.requires.asked.newest

pub answer-requires-clause-newest : goal.answer-requires-clause-newest
answer-requires-clause-newest g c =
    goal_newest c.put_columns.new.segment c.put_goal.new.segment c.args.asker.caller.0 c.args.asker.number c.put_goal.ensures.becomes
    (given_newest c.put_bytes-bytes.result.now c.args.segment.now.site.shape.n c.args.segment.now c.args.clock.now c.put_columns.new.segment c.put_columns.new.clock c.args.asker.caller.0
    c.args.asker.number c.put_columns.ensures.given c.requires.asked.newest)

pub returns-then-is_lost-clause-makes : goal.returns-then-is_lost-clause-makes
returns-then-is_lost-clause-makes g c = λ w setting.
    let s = c.args.segment.now in
    let u = c.put_columns.new.segment in
    let call = call_in c.args.slip.now in
    let bytes = c.put_bytes-bytes.result.now in
    let given = c.put_columns.ensures.given in
    let m = given.marked in
    let told = given_over bytes s c.args.clock.now u c.put_columns.new.clock _ c.live_nodes.result c.is_lost.result c.segment.view_is given c.live_nodes.ensures c.is_lost.ensures in
    let over : is_over m.site m.log ≡ true = sym told ∙ c.if-is_lost.true in
    rw c.answer_lost.ensures.outcome (makes_lost w bytes s u c.answer_lost.new.self c.args.asker.caller c.args.asker.number c.answer_lost.new.clock c.args.clock.now c.put_columns.new.clock c.args.slip.now call
    c.requires.sound c.requires.asked c.requires.next setting given over c.answer_lost.ensures.clock c.answer_lost.ensures.follows c.answer_lost.ensures.becomes)

pub returns-then-is_lost-clause-sound : goal.returns-then-is_lost-clause-sound
returns-then-is_lost-clause-sound g c =
    let s = c.args.segment.now in
    let u = c.put_columns.new.segment in
    let call = call_in c.args.slip.now in
    let bytes = c.put_bytes-bytes.result.now in
    let given = c.put_columns.ensures.given in
    let m = given.marked in
    let told = given_over bytes s c.args.clock.now u c.put_columns.new.clock _ c.live_nodes.result c.is_lost.result c.segment.view_is given c.live_nodes.ensures c.is_lost.ensures in
    let over : is_over m.site m.log ≡ true = sym told ∙ c.if-is_lost.true in
    let w = own_setting s in
    sound_after w (request_of c.args.asker.caller.0 c.args.asker.number call) c.args.clock.now c.answer_lost.new.clock true s c.answer_lost.new.self c.requires.sound
    (makes_lost w bytes s u c.answer_lost.new.self c.args.asker.caller c.args.asker.number c.answer_lost.new.clock c.args.clock.now c.put_columns.new.clock c.args.slip.now call
    c.requires.sound c.requires.asked c.requires.next (own_is s) given over c.answer_lost.ensures.clock c.answer_lost.ensures.follows c.answer_lost.ensures.becomes)

pub returns-clause-makes : goal.returns-clause-makes
returns-clause-makes g c = λ w setting.
    let s = c.args.segment.now in
    let u = c.put_columns.new.segment in
    let call = call_in c.args.slip.now in
    let bytes = c.put_bytes-bytes.result.now in
    let given = c.put_columns.ensures.given in
    let m = given.marked in
    let told = given_over bytes s c.args.clock.now u c.put_columns.new.clock _ c.live_nodes.result c.is_lost.result c.segment.view_is given c.live_nodes.ensures c.is_lost.ensures in
    let over : is_over m.site m.log ≡ false = sym told ∙ c.if-is_lost.false in
    let is : call ≡ Put bytes = ap (λ (o : Option Asked). unwrap_or o Merge) c.call.ensures ∙ c.put_bytes-bytes.ensures.same in
    let x = c.put_goal.new.segment in
    rw c.answer.ensures.outcome (makes_done w bytes s u x c.answer.new.self c.args.asker.caller c.args.asker.number c.answer.new.clock c.args.clock.now c.put_columns.new.clock c.args.slip.now call
    c.requires.sound c.requires.asked c.requires.next setting is c.put_bytes-bytes.ensures.plain given over c.put_goal.ensures.becomes c.put_goal.ensures.gives c.answer.ensures.clock
    c.answer.ensures.follows c.answer.ensures.becomes)

pub returns-clause-sound : goal.returns-clause-sound
returns-clause-sound g c =
    let s = c.args.segment.now in
    let u = c.put_columns.new.segment in
    let call = call_in c.args.slip.now in
    let bytes = c.put_bytes-bytes.result.now in
    let given = c.put_columns.ensures.given in
    let m = given.marked in
    let told = given_over bytes s c.args.clock.now u c.put_columns.new.clock _ c.live_nodes.result c.is_lost.result c.segment.view_is given c.live_nodes.ensures c.is_lost.ensures in
    let over : is_over m.site m.log ≡ false = sym told ∙ c.if-is_lost.false in
    let is : call ≡ Put bytes = ap (λ (o : Option Asked). unwrap_or o Merge) c.call.ensures ∙ c.put_bytes-bytes.ensures.same in
    let x = c.put_goal.new.segment in
    let w = own_setting s in
    sound_after w (request_of c.args.asker.caller.0 c.args.asker.number call) c.args.clock.now c.answer.new.clock true s c.answer.new.self c.requires.sound
    (makes_done w bytes s u x c.answer.new.self c.args.asker.caller c.args.asker.number c.answer.new.clock c.args.clock.now c.put_columns.new.clock c.args.slip.now call
    c.requires.sound c.requires.asked c.requires.next (own_is s) is c.put_bytes-bytes.ensures.plain given over c.put_goal.ensures.becomes c.put_goal.ensures.gives c.answer.ensures.clock
    c.answer.ensures.follows c.answer.ensures.becomes)

pub returns-then-is_lost-clause-outcome : goal.returns-then-is_lost-clause-outcome
returns-then-is_lost-clause-outcome g c =
    let u = c.put_columns.new.segment in
    let call = call_in c.args.slip.now in
    let none = given_open c.put_bytes-bytes.result.now c.args.segment.now u c.args.asker.caller.0 c.args.asker.number c.args.clock.now c.put_columns.new.clock c.args.slip.now call c.requires.sound
    c.requires.asked c.requires.next c.put_columns.ensures.given in
    rw c.answer_lost.ensures.outcome
    (outcome u c.answer_lost.new.self c.args.asker.caller c.args.asker.number c.answer_lost.new.clock u.version call Lost c.answer_lost.new.slip none c.answer_lost.ensures.becomes
    (rw c.answer_lost.ensures.slip refl))

pub returns-clause-outcome : goal.returns-clause-outcome
returns-clause-outcome g c =
    let x = c.put_goal.new.segment in
    let call = call_in c.args.slip.now in
    let none = goal_open c.put_bytes-bytes.result.now c.args.segment.now c.put_columns.new.segment x c.args.asker.caller.0 c.args.asker.number c.args.clock.now c.put_columns.new.clock c.args.slip.now call
    c.requires.sound c.requires.asked c.requires.next c.put_columns.ensures.given c.put_goal.ensures.becomes c.put_goal.ensures.gives in
    rw c.answer.ensures.outcome
    (outcome x c.answer.new.self c.args.asker.caller c.args.asker.number c.answer.new.clock x.version call Done c.answer.new.slip none c.answer.ensures.becomes (rw c.answer.ensures.slip refl))

pub returns-then-is_lost-clause-costs : goal.returns-then-is_lost-clause-costs
returns-then-is_lost-clause-costs g c = λ none.
    let s = c.args.segment.now in
    let u = c.put_columns.new.segment in
    let call = call_in c.args.slip.now in
    let bytes = c.put_bytes-bytes.result.now in
    let given = c.put_columns.ensures.given in
    let m = given.marked in
    let told = given_over bytes s c.args.clock.now u c.put_columns.new.clock _ c.live_nodes.result c.is_lost.result c.segment.view_is given c.live_nodes.ensures c.is_lost.ensures in
    let over : is_over m.site m.log ≡ true = sym told ∙ c.if-is_lost.true in
    let few = (to_put s c.args.asker.caller.0 call c.requires.sound c.requires.next).few in
    absurd (both_ways (is_over m.site m.log)
    (none_lost bytes s u c.answer_lost.new.self c.args.clock.now c.put_columns.new.clock c.requires.sound few given _ c.answer_lost.ensures.becomes none) over)

pub returns-clause-costs : goal.returns-clause-costs
returns-clause-costs g c = λ none.
    costs_put c.put_bytes-bytes.result.now c.args.segment.now c.put_columns.new.segment c.put_goal.new.segment c.answer.new.self c.args.asker.caller.0 (call_in c.args.slip.now) c.args.clock.now
    c.put_columns.new.clock c.put_columns.ensures.given c.put_goal.ensures.becomes c.put_goal.ensures.gives _ c.answer.ensures.becomes none

pub returns-clause-balance : goal.returns-clause-balance
returns-clause-balance g c =
    let s = c.args.segment.now in
    let u = c.put_columns.new.segment in
    let before = given_rooms c.put_bytes-bytes.result.now s.site.shape.n s c.args.clock.now u c.put_columns.new.clock c.put_columns.ensures.given in
    let after : rooms_of c.answer.new.self ≡ rooms_of c.put_goal.new.segment = ap rooms_of c.answer.ensures.becomes in
    let free = g.P.Pools.free in
    subst (λ (l : List Room). Balances (free c.args.pools.now) (free c.put_goal.new.pools) l (rooms_of c.answer.new.self)) before
    (subst (λ (l : List Room). Balances (free c.args.pools.now) (free c.put_goal.new.pools) (rooms_of u) l) (sym after) c.put_goal.ensures.balance)
